-- `alone::controller::message_at` meets its contract.
use Rattle.wire.proofs.Reading.{message_copied}
use Rattle.alone.proofs.controller.message_at.Goals as goal

pub returns : goal.returns
returns c = message_copied _ c.requires c.copy_from_slice.ensures.after
