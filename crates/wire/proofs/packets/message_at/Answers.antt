-- `wire::packets::message_at` meets its contract: what is copied is the rest of the packet.
use Rattle.wire.proofs.Reading.{message_copied}
use Rattle.wire.proofs.packets.message_at.Goals as goal

pub returns : goal.returns
returns c = search message_copied
