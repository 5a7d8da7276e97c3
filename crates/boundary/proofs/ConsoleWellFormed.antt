-- What a console run alone leaves without a refusal: a well-formed console, its fields of their types.
use Prim.Native.Nat.{ℕ}
use mathlib.Core.Path.{◌≡◌, refl, sym, subst}
use mathlib.Core.Bool.{Bool, true, false, true≢false}
use mathlib.Core.List.{List}
use native.Mathlib.Omega.{arith}
use borrow.Author.Tests.{eqb-true}
use lib.ListN.{length}
use lib.Dec.{eqb}
use Rattle.std.specs.Prelude.{Result}
use Rattle.std.specs.Prelude as result
use Rattle.ground.specs.Bytes.{Bytes}
use Rattle.ground.specs.Cell.{cells, is_message}
use Rattle.ground.specs.Choice.{chosen}
use Rattle.ground.specs.First.{refusal}
use Rattle.ground.specs.declared.refusals.Refusal.{Refusal}
use Rattle.ground.proofs.Tests.{by_test, and_left}
use Rattle.wire.specs.Packet.{head_read}
use Rattle.wire.specs.declared.Direction.TheVariants.{ToConsole}
use Rattle.wire.specs.declared.Head.{Head}
use Rattle.wire.specs.declared.Head.TheVariants as head
use Rattle.rules.specs.Supply.{numbering, Numbers}
use Rattle.rules.specs.Letters.{ConsoleAsk, to_put, to_send_need_i, to_send_data, to_tell_ack}
use Rattle.rules.specs.Ends as rules
use Rattle.rules.specs.Bears.{ConsoleBears}
use Rattle.rules.specs.Lists.{Opt}
use Rattle.rules.specs.Reading.{use_of, said, ack_after, reading, console_read_step}
use Rattle.rules.specs.WellFormed.{Number, Given, Good, ConsoleHandedOk, ConsoleOk}
use Rattle.rules.proofs.Supply.{numbering_lawful}
use Rattle.rules.proofs.WellFormed.{console_acts_ok}
use Rattle.ends_console.specs.Fields.{console_ok}
use Rattle.ends_console.specs.FieldsAsRules.{console_means, console_back}
use Rattle.numbers.proofs.Range.{number_below, Fit, sound_fits}
use Rattle.ends.specs.AsRules.{for_console}
use Rattle.ends.specs.Packets.{read_for_console}
use Rattle.ends_console.specs.declared.fields.Console.{Console}
use Rattle.ends_console.proofs.WellFormed.{console_good, console_stands}
use Rattle.channels.specs.Packets.{as_to_console, to_console_read}
use Rattle.channels.specs.Table.{goes}
use Rattle.channels.proofs.Packets.{ToConsoleReadOk, to_console_coded}
use Rattle.alone.specs.ConsoleAlone.{ConsoleAlone, console_alone_acts, console_alone}
use Rattle.alone.proofs.Calls.{console_heard, ConsoleActOf, Whatever, any_head, console_by_act}
use Rattle.boundary.specs.State.{is_refusal}
use Rattle.boundary.proofs.BenchRefusals.{ConsoleTyped}
use Rattle.boundary.proofs.ConsoleTrips.{Typed}

-- what was read and goes to the console bears numbers
packet_good : (packet : List ℕ) → Bytes packet → goes ToConsole (head_read packet) ≡ true → ToConsoleReadOk (as_to_console (head_read packet))
unfolding to_console_read
packet_good packet b g = (to_console_coded.back packet b g).1

head_good : (p : Result Head Refusal) → (goes ToConsole p ≡ true → ToConsoleReadOk (as_to_console p)) → Opt ToConsoleReadOk (for_console (read_for_console p))
head_good (result.Err r) g = tt
head_good (result.Ok (head.NeedI j)) g = tt
head_good (result.Ok (head.Offer j i)) g = g refl
head_good (result.Ok (head.Data i)) g = tt
head_good (result.Ok (head.Ok i)) g = g refl
head_good (result.Ok (head.Lost i)) g = g refl
head_good (result.Ok (head.Done i)) g = tt

handed_good : (m packet : List ℕ) → Opt ToConsoleReadOk (console_heard packet) → (k : ConsoleAsk) (a : rules.ConsoleAct (List ℕ)) → ConsoleActOf m packet k a → ConsoleHandedOk numbering a
handed_good m packet g to_put a e = subst (ConsoleHandedOk numbering) (sym e) tt
handed_good m packet g to_send_need_i a e = subst (ConsoleHandedOk numbering) (sym e) tt
handed_good m packet g to_send_data a e = subst (ConsoleHandedOk numbering) (sym e) tt
handed_good m packet g ConsoleAsk.to_take a e = subst (ConsoleHandedOk numbering) (sym e.1.1) (subst (Opt ToConsoleReadOk) e.1.0 g)
handed_good m packet g ConsoleAsk.to_go_down a e = subst (ConsoleHandedOk numbering) (sym e) tt
handed_good m packet g ConsoleAsk.to_come_back a e = subst (ConsoleHandedOk numbering) (sym e) tt
handed_good m packet g to_tell_ack a e = subst (ConsoleHandedOk numbering) (sym e) tt

message_long : (m : List ℕ) → is_message m ≡ true → length m ≡ 16
unfolding is_message
message_long m h = eqb-true (length m) 16 (and_left (eqb (length m) 16) (cells m) h)

-- numbers of the rules fit into their bytes
fields_typed : (u : Numbers) (k : rules.ConsoleMode (List ℕ)) (up ack : Bool) → Fit u → ConsoleBears (Given numbering u) (Number numbering) (Good is_message) k → Typed (console_back (reading (record { numbers = u; mode = k; up = up }) ack))
fields_typed u rules.ConsoleMode.idle up ack h b = record { numbers = h; j = omega arith; last = omega arith; message = refl }
fields_typed u (rules.in_need_i j m) up ack h b = record { numbers = h; j = number_below j b.0.0; last = omega arith; message = message_long m b.1 }
fields_typed u (rules.in_send l m) up ack h b = record { numbers = h; j = omega arith; last = number_below l b.0; message = message_long m b.1 }

abbrev pub ConsoleLeft : Console → Type 0
ConsoleLeft c = (console_ok c ≡ true) × Typed c

-- any ack
pub fields_left : (e : rules.Console Numbers (List ℕ)) (ack : Bool) → ConsoleOk numbering is_message e → ConsoleLeft (console_back (reading e ack))
fields_left e ack w =
    ((console_stands e ack w).0, fields_typed e.numbers e.mode e.up ack (sound_fits e.numbers w.numbers) w.mode)

module _ (c : Console) (typed : ConsoleTyped c) (m packet reply : List ℕ) (bytes : Bytes packet) where
  abbrev Leaves : ConsoleAlone → Type 0
  Leaves r = is_refusal r.outcome.report ≡ false → ConsoleLeft r.outcome.console

  acts_leave : (k : ConsoleAsk) (a : rules.ConsoleAct (List ℕ)) → ConsoleActOf m packet k a → console_ok c ≡ true → Leaves (console_alone_acts c reply a)
  unfolding console_alone_acts console_read_step said rules.console_step chosen
  acts_leave x a came y e =
      let k = refusal (rules.console_rules numbering is_message (console_means c) a) in
      let given = handed_good m packet (head_good (head_read packet) (packet_good packet bytes)) x a came in
      by_test (eqb k 0)
      (λ z.
      let after = ack_after (use_of a) c.ack (rules.console_acts numbering (console_means c) a).report in
      rw z (fields_left _ after (console_acts_ok numbering numbering_lawful is_message (console_means c) a (eqb-true k 0 z) (console_good c typed.message y typed.last) given).0))
      (λ z. absurd (true≢false (rw z at e)))

  pub console_left : (l : ℕ) → Leaves (console_alone c l m packet reply)
  console_left l =
      console_by_act Whatever tt tt tt tt c m packet reply Leaves (λ k u e. absurd (true≢false e)) (any_head (head_read packet)) l (λ x k e f. acts_leave k)
