-- Whom a letter asks on a known bench, with what came, is whom the rules ask.
use Prim.Native.Nat.{ℕ}
use mathlib.Core.Path.{◌≡◌, refl, sym, ap, subst, ◌∙◌}
use mathlib.Core.Bool.{Bool, true, false, not, ◌&&◌, true≢false}
use mathlib.Core.Option as maybe
use mathlib.Core.List.{List, [], ◌∷◌}
use lib.Dec.{eqb, ltb}
use borrow.Author.Tests.{eqb-true}
use Rattle.ends_controller.specs.AsRules as controller
use Rattle.ends_console.specs.AsRules as console
use Rattle.std.specs.Prelude.{Option}
use Rattle.ground.specs.Choice.{chosen}
use Rattle.ground.specs.First.{refusal, first, applies}
use Rattle.ground.proofs.Tests.{by_test}
use Rattle.rules.specs.Letters as letters
use Rattle.rules.specs.Offered.{Offer, offered}
use Rattle.rules.specs.Ends as ends
use Rattle.rules.specs.Bench as rules
use Rattle.rules.proofs.Bench.{puts_sends}
use Rattle.letters.specs.Lines.{line_of, letter_of, Lined}
use Rattle.letters.specs.declared.Asks.{Asks}
use Rattle.letters.specs.declared.Asks.TheVariants as asks
use Rattle.letters.specs.declared.ConsoleAsk.{ConsoleAsk}
use Rattle.letters.specs.declared.ControllerAsk.{ControllerAsk}
use Rattle.letters.specs.declared.Line.{Line}
use Rattle.ends.specs.AsRules.{Beside, for_controller}
use Rattle.ends.specs.declared.ToController.{ToController}
use Rattle.ends_controller.proofs.Decisions.{known}
use Rattle.bench.specs.Arriving.{came_out, came_for}
use Rattle.bench.specs.ByModes.{Known, Offers, Arrived, Few, modes_moved, modes_means, staged_7, all_known, OnConsole, OnController, OnLosing}
use Rattle.bench.specs.declared.Action.{Action}
use Rattle.bench.specs.declared.arriving.Came.{Came}
use Rattle.bench.specs.declared.modes.Modes.{Modes}
use Rattle.bench.specs.declared.modes.Offered.{Offered}
use Rattle.bench.proofs.PacketAtPlace.{back_is, out_is}
use Rattle.bench.proofs.RefusedByModes.{out_held, back_held}

-- ## 7

staged_0 : (n : ℕ) → n ≡ staged_7 n false
unfolding chosen
staged_0 n = by_test (eqb n 0) (λ t. rw t (eqb-true n 0 t)) (λ f. rw f)

-- of what is not a packet for the controller nothing is unknown
quiet : (u : Bool) (n : ℕ) → ends.unknown {M = Beside} (λ n. not u) maybe.Option.none ≡ u → n ≡ staged_7 n u
unfolding ends.unknown
quiet u n e = staged_0 n ∙ ap (staged_7 n) e

abbrev taking : Bool → Bool → ℕ
taking up unknown = refusal (ends.down_4 up ∷ (7, unknown) ∷ [])

taking_7 : (up u : Bool) → taking up u ≡ staged_7 (taking up false) u
unfolding refusal first applies chosen
taking_7 true true = refl
taking_7 true false = refl
taking_7 false true = refl
taking_7 false false = refl

take_7 : (u : Bool) (p : Option ToController) → ends.unknown (λ n. not u) (for_controller p) ≡ u → (e : ends.Controller Offer) → e.numbers.known ≡ not u
    → refusal (ends.controller_rules offered e (ends.ControllerAct.take (for_controller p))) ≡ staged_7 (refusal (ends.controller_rules offered (all_known e) (ends.ControllerAct.take (for_controller p)))) u
unfolding ends.controller_rules
take_7 u p h e k =
    ap (λ (x : Bool). taking e.up (ends.unknown (λ n. x) (for_controller p))) k
    ∙ ap (taking e.up) h
    ∙ taking_7 e.up u
    ∙ ap (λ (x : Bool). staged_7 (taking e.up x) u) (sym (known p))

-- ## By letter

module _ (b : Modes) (o : Offered) (out back : List ℕ) (a : Action) (k : Known b out back) where
  -- what is relied on, by who is asked
  abbrev Relied : Line → Came → Asks → Type 0
  Relied line came (asks.Console ask) = OnConsole b o out back line a ask came
  Relied line came (asks.Controller ask) = OnController b o out back line a ask came
  Relied line came asks.NoEnd = OnLosing b o out back line a

  abbrev FewOf : letters.Letter → Type 0
  FewOf l = ((line_of l).copies && ltb 3 a.copies) ≡ false

  abbrev came_to : letters.Letter → Came
  came_to l = came_for (line_of l).asks out b.sent back b.returned a.place

  abbrev Unknown : Came → Type 0
  Unknown c = ends.unknown (λ n. not o.unknown) (for_controller c.controller) ≡ o.unknown

  -- of a letter that has copies nothing is said of silence
  loud : {A : Type 0} (l : letters.Letter) → (line_of l).copies ≡ true → (line_of l).copies ≡ false → A
  loud l t f = absurd (true≢false (sym t ∙ f))

  by_letter : (l : letters.Letter) → FewOf l → Unknown (came_to l) → Offers (console.given o.j) → Offers (controller.given o.i) → Relied (line_of l) (came_to l) (line_of l).asks
  unfolding Lined line_of letters.line rules.asks rules.takes chosen ends.console_acts ends.console_turn ends.controller_acts ends.controller_turn ends.controller_rules modes_moved
  by_letter letters.p_put f u oj oi = record { begun = record { lined = refl; few = f }; offers = oj; asks = refl; takes = refl; message = refl; silent = λ _ e. puts_sends _ _ _ }
  by_letter letters.q_need f u oj oi = record { begun = record { lined = refl; few = f }; offers = oj; asks = refl; takes = refl; message = refl; silent = λ t. loud letters.q_need refl t }
  by_letter letters.d_data f u oj oi = record { begun = record { lined = refl; few = f }; offers = oj; asks = refl; takes = refl; message = refl; silent = λ t. loud letters.d_data refl t }
  by_letter letters.s_take f u oj oi =
      record {
        begun = record { lined = refl; few = f };
        offers = oj;
        asks = ap (λ (p : maybe.Option ends.ToConsole). rules.Asked.console (ends.ConsoleAct.take p)) (sym (back_is (modes_means b o out back).to_console back b.returned a.place (back_held b out back k)));
        takes = refl;
        message = refl;
        silent = λ t. loud letters.s_take refl t;
      }
  by_letter letters.c_down f u oj oi = record { begun = record { lined = refl; few = f }; offers = oj; asks = refl; takes = refl; message = refl; silent = λ _ e. refl }
  by_letter letters.v_back f u oj oi = record { begun = record { lined = refl; few = f }; offers = oj; asks = refl; takes = refl; message = refl; silent = λ _ e. refl }
  by_letter letters.o_offer f u oj oi = record { begun = record { lined = refl; few = f }; offers = oi; asks = refl; takes = refl; silent = λ t. loud letters.o_offer refl t; seven = λ e h. quiet o.unknown _ u }
  by_letter letters.k_ok f u oj oi = record { begun = record { lined = refl; few = f }; offers = oi; asks = refl; takes = refl; silent = λ t. loud letters.k_ok refl t; seven = λ e h. quiet o.unknown _ u }
  by_letter letters.r_take f u oj oi =
      record {
        begun = record { lined = refl; few = f };
        offers = oi;
        asks = ap (λ (p : maybe.Option (ends.ToController (List ℕ))). rules.Asked.controller (ends.ControllerAct.take p)) (sym (out_is (modes_means b o out back).to_controller out b.sent a.place (out_held b out back k)));
        takes = refl;
        silent = λ t. loud letters.r_take refl t;
        seven = take_7 o.unknown (came_out out b.sent a.place).controller u;
      }
  by_letter letters.x_down f u oj oi = record { begun = record { lined = refl; few = f }; offers = oi; asks = refl; takes = refl; silent = λ _ e. refl; seven = λ e h. quiet o.unknown _ u }
  by_letter letters.y_back f u oj oi = record { begun = record { lined = refl; few = f }; offers = oi; asks = refl; takes = refl; silent = λ _ e. refl; seven = λ e h. quiet o.unknown _ u }
  by_letter letters.l_lose f u oj oi = record { begun = record { lined = refl; few = f }; asks = refl; takes = refl; takes_one = tt; place = refl }
  by_letter letters.m_lose f u oj oi = record { begun = record { lined = refl; few = f }; asks = refl; takes = refl; takes_one = tt; place = refl }
  by_letter letters.a_ack f u oj oi = record { begun = record { lined = refl; few = f }; offers = oj; asks = refl; takes = refl; message = refl; silent = λ _ e. refl }

  module _ (line : Line) (came : Came) (n : Few line a) (c : Arrived b o out back line a came) where
    relied : Relied line came line.asks
    unfolding Lined
    relied =
        let x = subst (λ (y : Came). Unknown y) (c.came_is ∙ ap (λ (y : Line). came_for y.asks out b.sent back b.returned a.place) n.lined) c.unknown_is in
        subst (λ (y : Came). Relied line y line.asks) (sym c.came_is)
        (subst (λ (y : Line). Relied y (came_for y.asks out b.sent back b.returned a.place) y.asks) (sym n.lined)
        (by_letter (letter_of line) (ap (λ (y : Line). y.copies && ltb 3 a.copies) (sym n.lined) ∙ n.few) x c.j_offered c.i_offered))

    pub asked_console : {ask : ConsoleAsk} → line.asks ≡ asks.Console ask → OnConsole b o out back line a ask came
    asked_console h = subst (Relied line came) h relied

    pub asked_controller : {ask : ControllerAsk} → line.asks ≡ asks.Controller ask → OnController b o out back line a ask came
    asked_controller h = subst (Relied line came) h relied

    pub asked_no_end : line.asks ≡ asks.NoEnd → OnLosing b o out back line a
    asked_no_end h = subst (Relied line came) h relied
