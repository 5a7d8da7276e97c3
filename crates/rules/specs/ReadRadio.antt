-- Two boxes over any radio, with the console's ack: what they show, and demand 3 of it as request 2 words it. Assumes nothing.
use Rattle.std.specs.Prelude.{ℕ, suc, ◌≡◌, Bool, true, false, List, [], ◌∷◌, map}
use Rattle.std.proofs.Math.Option
use Rattle.std.proofs.Math.Option.{Option}
use Rattle.rules.specs.Supply.{Supply}
use Rattle.rules.specs.Bench.{Asked, console, controller, no_end}
use Rattle.rules.specs.Relabel.{in_action}
use Rattle.rules.specs.Log.{Labelled, labelled, Event, Log, put_count}
use Rattle.rules.specs.Demand3.{write, written, unnumbered, shown}
use Rattle.rules.specs.Radio.{Link, Happening, acts, kept_and_cut, cut, asked, happens, start, in_happening, fall_of}
use Rattle.rules.specs.Reading.{Use, leaves, clears, use_by, Reading, Read, read, unread}
use Rattle.rules.specs.ReadLog.{RightRead}
use Rattle.rules.specs.ReadDemand3.{read_row, firsts, spares_lost}

-- the ack is kept nowhere: a cut of the console's power leaves it lost
abbrev pub use_cut : {M : Type 0} → Asked M → Use
use_cut (console act) = clears
use_cut (controller act) = leaves
use_cut no_end = leaves

abbrev pub use_at : {S M : Type 0} → Link S M → Happening M → Use
use_at l (acts a) = use_by (asked l a)
use_at l (kept_and_cut a) = use_cut (asked l a)
use_at l (cut a) = use_cut (asked l a)

module _ {S M : Type 0} (U : Supply S) (good : M → Bool) where
  unfoldable pub read_happens : Reading (Link S M) → Happening M → Read (Link S M) M
  read_happens r h = let c = happens U good r.history h in read (use_at r.history h) r.ack c.report c.after

-- ## The log, with the orders numbered

module _ {S M : Type 0} (U : Supply S) (good : M → Bool) where
  abbrev pub labelled_read_happens : ℕ → Reading (Link S (Labelled M)) → Happening M → Read (Link S (Labelled M)) (Labelled M)
  labelled_read_happens n r h = read_happens U (λ m. good m.cells) r (in_happening (labelled n) h)

  -- the row that is left, if one is; a cut is a going down
  abbrev pub read_row_left : Log M → Reading (Link S (Labelled M)) → Happening M → Option (Event M)
  read_row_left past r (acts a) = read_row past a (labelled_read_happens (suc (put_count past)) r (acts a)).report
  read_row_left past r (kept_and_cut a) = fall_of (asked r.history (in_action (labelled (suc (put_count past))) a))
  read_row_left past r (cut a) = fall_of (asked r.history (in_action (labelled (suc (put_count past))) a))

  unfoldable pub read_rows_left : Log M → Reading (Link S (Labelled M)) → List (Happening M) → List (Option (Event M))
  read_rows_left past r [] = []
  read_rows_left past r (h ∷ hs) =
      read_row_left past r h ∷ read_rows_left (write (read_row_left past r h) past) (labelled_read_happens (suc (put_count past)) r h).after hs

  abbrev pub radio_read_log : S → S → List (Happening M) → Log M
  radio_read_log j i hs = written (read_rows_left [] (unread (start j i)) hs) []

  -- ## What the boxes show

  abbrev pub read_shown_of : Reading (Link S M) → Happening M → Option (Event M)
  read_shown_of r (acts a) = shown a (read_happens U good r (acts a)).report
  read_shown_of r (kept_and_cut a) = fall_of (asked r.history a)
  read_shown_of r (cut a) = fall_of (asked r.history a)

  unfoldable pub read_rows_shown : Reading (Link S M) → List (Happening M) → List (Option (Event M))
  read_rows_shown r [] = []
  read_rows_shown r (h ∷ hs) = read_shown_of r h ∷ read_rows_shown (read_happens U good r h).after hs

  -- ## Demand 3 of two boxes over any radio

  pub record RadioRightRead (j i : S) (hs : List (Happening M)) : Type 0 where
    pub right : RightRead (radio_read_log j i hs)
    -- one by one, the row without its number is what the boxes show, the first answer after each put
    pub own : map (Option.map unnumbered) (read_rows_left [] (unread (start j i)) hs) ≡ firsts false (read_rows_shown (unread (start j i)) hs)
    -- and an A that is no put's answer tells lost
    pub spare : spares_lost false (read_rows_shown (unread (start j i)) hs) ≡ true
