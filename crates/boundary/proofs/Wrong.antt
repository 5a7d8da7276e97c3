-- Boxes that the promises shut out, each at one input: one that always refuses, one that always says OK, one that changes nothing, one that
-- trusts its bytes, one that is changed by a refusal; one that never says that its number record is to be kept, one that says it of a refusal or of
-- a step that takes no number; one that leaves an answer that was read, or keeps it through a restart, one that tells an answer as it arrives.
use Prim.Native.Nat.{ℕ}
use mathlib.Core.Path.{◌≡◌, refl, sym, ap, ◌∙◌}
use mathlib.Core.Bool.{Bool, true, false, true≢false}
use mathlib.Core.List.{List, []}
use native.Mathlib.Omega.{arith}
use contract.Lifetimes.{Lfts}
use borrow.Fn.Kinds.{Dens, ended_of}
use denote.Triple.Clauses.{AtExit}
use lib.ListN.{get_or, replicate}
use Rattle.ground.specs.Cell.{cells, is_message, spaces}
use Rattle.ground.specs.Every.{filled}
use Rattle.ground.proofs.Promise.{RulesOut, unequal}
use Rattle.wire.specs.Number.{bytes_of, value}
use Rattle.wire.proofs.Vectors.{need_i_1, need_i_1_read}
use Rattle.rules.specs.Supply.{numbers_rules}
use Rattle.rules.specs.Letters.{line, letters, among, letter}
use Rattle.rules.specs.Ends as rules
use Rattle.rules.specs.Reading.{readings}
use Rattle.numbers.specs.Numbers.{numbers_fresh}
use Rattle.ends_console.specs.Fields.{console_ok, console_mode, fresh_console, console_with}
use Rattle.ends_controller.specs.Fields.{controller_ok, controller_mode, fresh_controller, downed_controller}
use Rattle.ends_console.specs.declared.Mode.{Mode}
use Rattle.ends_console.specs.declared.Mode.TheVariants.{NeedI}
use Rattle.alone.specs.AnyEnd.{lent}
use Rattle.alone.specs.ConsoleAlone.{console_alone_acts, console_alone}
use Rattle.alone.specs.ControllerAlone.{controller_alone_acts, controller_alone}
use Rattle.alone.proofs.Vectors.{opened}
use Rattle.boundary.specs.State.{marks, written}
use Rattle.boundary.specs.Console as console
use Rattle.boundary.specs.Controller as controller
use Rattle.boundary.proofs.Answers.{console_take_tells_no_answer}
use Rattle.boundary.proofs.StepRefusals.{console_step_refusal_leaves, controller_step_refusal_leaves}
use Rattle.boundary.proofs.ToldByte.{Refusal, keeps, answers}
use Rattle.boundary.proofs.console.nooseless_console_step.Kinds as console-kinds
use Rattle.boundary.proofs.console.nooseless_console_step.Reads as console-step
use Rattle.boundary.proofs.controller.nooseless_controller_step.Kinds as controller-kinds
use Rattle.boundary.proofs.controller.nooseless_controller_step.Reads as controller-step

-- ## A console: P of 16 spaces, fresh

abbrev fresh_console_state : List ℕ
fresh_console_state = console.console_bytes (fresh_console (record { 0 = 0 }))

abbrev putting : List ℕ
putting = console.console_bytes (console_with (record { used = 1; reserved = 64; block = 64 }) (NeedI (record { 0 = 1 })) true false spaces)

put_told : (packet reply : List ℕ) → console.console_state_step fresh_console_state 0x50 spaces packet reply ≡ record { told = 32; state = putting; reply = reply }
unfolding console.console_bytes console.console_at console.is_state console.fields_at marks written bytes_of value console_alone console_ok console_mode console_alone_acts readings rules.ends numbers_rules is_message cells filled line letters among letter
put_told packet reply = refl

module _ (κs : Lfts 4) (a : Dens κs console-kinds.ps) (n : ℕ) (s : AtExit (ended_of 4 console-kinds.ps console-kinds.r) κs) (fresh : a.0.now ≡ fresh_console_state) (puts : a.1.0 ≡ 0x50) (message : a.1.1.0.now ≡ spaces) (meets : console-step.Post κs a n s) where
  put_so : ◌≡◌ {A = console.ConsoleStep} (record { told = n; state = s.0.now; reply = s.1.1.1.1.0.now }) (record { told = 32; state = putting; reply = a.1.1.1.1.0.now })
  put_so = meets ∙ (λ i. console.console_state_step (fresh i) (puts i) (message i) a.1.1.1.0.now a.1.1.1.1.0.now) ∙ put_told a.1.1.1.0.now a.1.1.1.1.0.now

  -- a refusal, an answer and a delivery are other numbers
  pub console_always_tells : (n ≡ 32 → ⊥) → ⊥
  console_always_tells h = h (ap (λ (r : console.ConsoleStep). r.told) put_so)

  pub console_changes_nothing : s.0.now ≡ a.0.now → ⊥
  unfolding console.console_bytes bytes_of
  console_changes_nothing e =
      let q : putting ≡ fresh_console_state = sym (ap (λ (r : console.ConsoleStep). r.state) put_so) ∙ e ∙ fresh in
      let z : ◌≡◌ {A = ℕ} 1 0 = ap (λ (l : List ℕ). get_or l 18 0) q in
      omega (arith, z)

-- no bytes at all are a state that is not well formed
untrusted_told : (packet reply : List ℕ) → console.console_state_step [] 0x50 spaces packet reply ≡ record { told = 2; state = []; reply = reply }
unfolding console.console_at console.is_state written console_alone console_ok console_mode console_alone_acts readings rules.ends numbers_rules is_message cells filled line letters among letter
untrusted_told packet reply = refl

module _ (κs : Lfts 4) (a : Dens κs console-kinds.ps) (n : ℕ) (s : AtExit (ended_of 4 console-kinds.ps console-kinds.r) κs) (none : a.0.now ≡ []) (puts : a.1.0 ≡ 0x50) (message : a.1.1.0.now ≡ spaces) (meets : console-step.Post κs a n s) where
  pub console_trusts : (n ≡ 2 → ⊥) → ⊥
  console_trusts h =
      h (ap (λ (r : console.ConsoleStep). r.told)
      (meets ∙ (λ i. console.console_state_step (none i) (puts i) (message i) a.1.1.1.0.now a.1.1.1.1.0.now) ∙ untrusted_told a.1.1.1.0.now a.1.1.1.1.0.now))

pub console_changed_by_a_refusal : RulesOut console-kinds.ps console-kinds.r console-step.Post (λ κs a. Unit {0}) (λ κs a x s. Refusal x × (s.0.now ≡ a.0.now → ⊥))
console_changed_by_a_refusal κs a x s e w p = w.1 (ap (λ (r : List ℕ × List ℕ). r.0) (console_step_refusal_leaves κs a x s tt w.0 p))

-- a put takes the first number of a block, what is refused takes none, and going down takes none
pub console_never_says_keep : RulesOut console-kinds.ps console-kinds.r console-step.Post (λ κs a. (a.0.now ≡ fresh_console_state) × (a.1.0 ≡ 0x50) × (a.1.1.0.now ≡ spaces)) (λ κs a x s. keeps x ≡ false)
console_never_says_keep κs a x s e w p = true≢false (sym (ap (λ (r : console.ConsoleStep). keeps r.told) (put_so κs a x s e.0 e.1 e.2 p)) ∙ w)

pub console_keeps_a_refusal : RulesOut console-kinds.ps console-kinds.r console-step.Post (λ κs a. (a.0.now ≡ []) × (a.1.0 ≡ 0x50) × (a.1.1.0.now ≡ spaces)) (λ κs a x s. keeps x ≡ true)
console_keeps_a_refusal κs a x s e w p = console_trusts κs a x s e.0 e.1 e.2 p (λ q. true≢false (sym w ∙ ap keeps q))

fall_told : (message packet reply : List ℕ) → (console.console_state_step fresh_console_state 0x43 message packet reply).told ≡ 0
unfolding console.console_bytes console.console_at console.is_state console.fields_at marks written bytes_of value console_alone console_ok console_mode console_alone_acts readings rules.ends numbers_rules is_message cells filled line letters among letter
fall_told message packet reply = refl

pub console_keeps_of_no_number : RulesOut console-kinds.ps console-kinds.r console-step.Post (λ κs a. (a.0.now ≡ fresh_console_state) × (a.1.0 ≡ 0x43)) (λ κs a x s. keeps x ≡ true)
console_keeps_of_no_number κs a x s e w p =
    let q = ap (λ (r : console.ConsoleStep). r.told) (p ∙ (λ i. console.console_state_step (e.0 i) (e.1 i) a.1.1.0.now a.1.1.1.0.now a.1.1.1.1.0.now)) ∙ fall_told a.1.1.0.now a.1.1.1.0.now a.1.1.1.1.0.now in
    true≢false (sym w ∙ ap keeps q)

-- a put within the block: the flash would wear as before
abbrev idle_with : Bool → List ℕ
idle_with ack = console.console_bytes (console_with (record { used = 1; reserved = 64; block = 64 }) Mode.Idle true ack spaces)

abbrev within : List ℕ
within = idle_with false

within_told : (packet reply : List ℕ) → (console.console_state_step within 0x50 spaces packet reply).told ≡ 0
unfolding console.console_bytes console.console_at console.is_state console.fields_at marks written bytes_of value console_alone console_ok console_mode console_alone_acts readings rules.ends numbers_rules is_message cells filled line letters among letter
within_told packet reply = refl

pub console_keeps_within_the_block : RulesOut console-kinds.ps console-kinds.r console-step.Post (λ κs a. (a.0.now ≡ within) × (a.1.0 ≡ 0x50) × (a.1.1.0.now ≡ spaces)) (λ κs a x s. keeps x ≡ true)
console_keeps_within_the_block κs a x s e w p =
    let q = ap (λ (r : console.ConsoleStep). r.told) (p ∙ (λ i. console.console_state_step (e.0 i) (e.1 i) (e.2 i) a.1.1.1.0.now a.1.1.1.1.0.now)) ∙ within_told a.1.1.1.0.now a.1.1.1.1.0.now in
    true≢false (sym w ∙ ap keeps q)

-- ## An answer: A of a console that has OK in byte 20

read_told : (message packet reply : List ℕ) → console.console_state_step (idle_with true) 0x41 message packet reply ≡ record { told = 65; state = idle_with false; reply = reply }
unfolding console.console_bytes console.console_at console.is_state console.fields_at marks written bytes_of value console_alone console_ok console_mode console_alone_acts readings rules.ends numbers_rules is_message cells filled line letters among letter
read_told message packet reply = refl

module _ (κs : Lfts 4) (a : Dens κs console-kinds.ps) (n : ℕ) (s : AtExit (ended_of 4 console-kinds.ps console-kinds.r) κs) (has-ok : a.0.now ≡ idle_with true) (reads : a.1.0 ≡ 0x41) (meets : console-step.Post κs a n s) where
  read_so : ◌≡◌ {A = console.ConsoleStep} (record { told = n; state = s.0.now; reply = s.1.1.1.1.0.now }) (record { told = 65; state = idle_with false; reply = a.1.1.1.1.0.now })
  read_so = meets ∙ (λ i. console.console_state_step (has-ok i) (reads i) a.1.1.0.now a.1.1.1.0.now a.1.1.1.1.0.now) ∙ read_told a.1.1.0.now a.1.1.1.0.now a.1.1.1.1.0.now

-- lost, a refusal, and OK with a mark
pub console_tells_no_answer : RulesOut console-kinds.ps console-kinds.r console-step.Post (λ κs a. (a.0.now ≡ idle_with true) × (a.1.0 ≡ 0x41)) (λ κs a x s. x ≡ 65 → ⊥)
console_tells_no_answer κs a x s e w p = w (ap (λ (r : console.ConsoleStep). r.told) (read_so κs a x s e.0 e.1 p))

-- the next order would be taken for carried out
pub console_leaves_a_read_answer : RulesOut console-kinds.ps console-kinds.r console-step.Post (λ κs a. (a.0.now ≡ idle_with true) × (a.1.0 ≡ 0x41)) (λ κs a x s. get_or s.0.now 20 0 ≡ 1)
unfolding console.console_bytes bytes_of
console_leaves_a_read_answer κs a x s e w p = unequal (sym w ∙ ap (λ (r : console.ConsoleStep). get_or r.state 20 0) (read_so κs a x s e.0 e.1 p)) refl

-- S, of any bytes and with any packet in: as version 2 did, so that the answer would be told twice
pub console_tells_what_arrives : RulesOut console-kinds.ps console-kinds.r console-step.Post (λ κs a. a.1.0 ≡ 0x53) (λ κs a x s. answers x ≡ true)
console_tells_what_arrives κs a x s e w p =
    let q = ap (λ (r : console.ConsoleStep). answers r.told) (p ∙ ap (λ (l : ℕ). console.console_state_step a.0.now l a.1.1.0.now a.1.1.1.0.now a.1.1.1.1.0.now) e) in
    true≢false (sym w ∙ q ∙ console_take_tells_no_answer a.0.now a.1.1.0.now a.1.1.1.0.now a.1.1.1.1.0.now)

-- OK was not read before the power went, and V brings the console back
abbrev down_with_ok : List ℕ
down_with_ok = console.console_bytes (console_with (record { used = 1; reserved = 64; block = 64 }) Mode.Idle false true spaces)

back_clears : (message packet reply : List ℕ) → get_or (console.console_state_step down_with_ok 0x56 message packet reply).state 20 0 ≡ 0
unfolding opened written console.console_bytes console.console_at console.is_state console.fields_at
back_clears message packet reply = refl

pub console_comes_back_with_an_answer : RulesOut console-kinds.ps console-kinds.r console-step.Post (λ κs a. (a.0.now ≡ down_with_ok) × (a.1.0 ≡ 0x56)) (λ κs a x s. get_or s.0.now 20 0 ≡ 1)
console_comes_back_with_an_answer κs a x s e w p =
    unequal (sym w ∙ ap (λ (r : console.ConsoleStep). get_or r.state 20 0) (p ∙ (λ i. console.console_state_step (e.0 i) (e.1 i) a.1.1.0.now a.1.1.1.0.now a.1.1.1.1.0.now)) ∙ back_clears a.1.1.0.now a.1.1.1.0.now a.1.1.1.1.0.now) refl

-- ## A controller: X, fresh

abbrev fresh_controller_state : List ℕ
fresh_controller_state = controller.controller_bytes (fresh_controller (record { 0 = 0 }))

abbrev down : List ℕ
down = controller.controller_bytes (downed_controller (numbers_fresh 0))

down_told : (packet reply out : List ℕ) → controller.controller_state_step fresh_controller_state 0x58 packet reply out ≡ record { told = 0; state = down; reply = reply; delivered = out }
unfolding controller.controller_bytes controller.controller_at controller.is_state controller.fields_at marks written bytes_of value controller_alone controller_ok controller_mode controller_alone_acts rules.ends line letters among letter
down_told packet reply out = refl

module _ (κs : Lfts 4) (a : Dens κs controller-kinds.ps) (n : ℕ) (s : AtExit (ended_of 4 controller-kinds.ps controller-kinds.r) κs) (fresh : a.0.now ≡ fresh_controller_state) (falls : a.1.0 ≡ 0x58) (meets : controller-step.Post κs a n s) where
  down_so : ◌≡◌ {A = controller.ControllerStep} (record { told = n; state = s.0.now; reply = s.1.1.1.0.now; delivered = s.1.1.1.1.0.now }) (record { told = 0; state = down; reply = a.1.1.1.0.now; delivered = a.1.1.1.1.0.now })
  down_so = meets ∙ (λ i. controller.controller_state_step (fresh i) (falls i) a.1.1.0.now a.1.1.1.0.now a.1.1.1.1.0.now) ∙ down_told a.1.1.0.now a.1.1.1.0.now a.1.1.1.1.0.now

  pub controller_always_tells : (n ≡ 0 → ⊥) → ⊥
  controller_always_tells h = h (ap (λ (r : controller.ControllerStep). r.told) down_so)

  pub controller_changes_nothing : s.0.now ≡ a.0.now → ⊥
  unfolding controller.controller_bytes bytes_of
  controller_changes_nothing e =
      let q : down ≡ fresh_controller_state = sym (ap (λ (r : controller.ControllerStep). r.state) down_so) ∙ e ∙ fresh in
      let z : ◌≡◌ {A = ℕ} 0 1 = ap (λ (l : List ℕ). get_or l 22 0) q in
      omega (arith, z)

pub controller_changed_by_a_refusal : RulesOut controller-kinds.ps controller-kinds.r controller-step.Post (λ κs a. Unit {0}) (λ κs a x s. Refusal x × (s.0.now ≡ a.0.now → ⊥))
controller_changed_by_a_refusal κs a x s e w p = w.1 (ap (λ (r : List ℕ × List ℕ × List ℕ). r.0) (controller_step_refusal_leaves κs a x s tt w.0 p))

-- needI takes the first number of a block, what is refused takes none, and going down takes none
need_told : (out : List ℕ) → (controller.controller_state_step fresh_controller_state 0x52 need_i_1 (replicate 32 0) out).told ≡ 32
unfolding controller.controller_bytes controller.controller_at controller.is_state controller.fields_at marks written bytes_of value controller_alone controller_ok controller_mode controller_alone_acts lent rules.ends numbers_rules line letters among letter
need_told out = rw need_i_1_read

pub controller_never_says_keep : RulesOut controller-kinds.ps controller-kinds.r controller-step.Post (λ κs a. (a.0.now ≡ fresh_controller_state) × (a.1.0 ≡ 0x52) × (a.1.1.0.now ≡ need_i_1) × (a.1.1.1.0.now ≡ replicate 32 0)) (λ κs a x s. keeps x ≡ false)
controller_never_says_keep κs a x s e w p =
    let q = ap (λ (r : controller.ControllerStep). r.told) (p ∙ (λ i. controller.controller_state_step (e.0 i) (e.1 i) (e.2 i) (e.3 i) a.1.1.1.1.0.now)) ∙ need_told a.1.1.1.1.0.now in
    true≢false (sym (ap keeps q) ∙ w)

untrusted_down : (packet reply out : List ℕ) → (controller.controller_state_step [] 0x58 packet reply out).told ≡ 2
unfolding controller.controller_at controller.is_state written controller_alone controller_ok controller_mode controller_alone_acts rules.ends line letters among letter
untrusted_down packet reply out = refl

pub controller_keeps_a_refusal : RulesOut controller-kinds.ps controller-kinds.r controller-step.Post (λ κs a. (a.0.now ≡ []) × (a.1.0 ≡ 0x58)) (λ κs a x s. keeps x ≡ true)
controller_keeps_a_refusal κs a x s e w p =
    let q = ap (λ (r : controller.ControllerStep). r.told) (p ∙ (λ i. controller.controller_state_step (e.0 i) (e.1 i) a.1.1.0.now a.1.1.1.0.now a.1.1.1.1.0.now)) ∙ untrusted_down a.1.1.0.now a.1.1.1.0.now a.1.1.1.1.0.now in
    true≢false (sym w ∙ ap keeps q)

pub controller_keeps_of_no_number : RulesOut controller-kinds.ps controller-kinds.r controller-step.Post (λ κs a. (a.0.now ≡ fresh_controller_state) × (a.1.0 ≡ 0x58)) (λ κs a x s. keeps x ≡ true)
controller_keeps_of_no_number κs a x s e w p = true≢false (sym w ∙ ap (λ (r : controller.ControllerStep). keeps r.told) (down_so κs a x s e.0 e.1 p))
