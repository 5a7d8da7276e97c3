-- `wire::packets::head_bytes` meets its contract: its 16 bytes are the frame and the two numbers.
use Rattle.wire.proofs.Writing.{head_bytes_are}
use Rattle.wire.proofs.packets.head_bytes.Goals as goal

pub returns : goal.returns
returns c = search head_bytes_are
