-- The traced step beside the plain one, by cases. Of the lines only their number decides it; what is written behind the output does not.
use Prim.Native.Nat.{ℕ}
use mathlib.Core.Path.{◌≡◌, refl, sym, ap, subst, ◌∙◌}
use mathlib.Core.Bool.{Bool, true, false}
use mathlib.Core.List.{List, []}
use native.Mathlib.Omega.{arith}
use lib.ListN.{length}
use Rattle.rules.specs.declared.Refusal.{Refusal}
use Rattle.rules.specs.Results.{Result, refuse, pass}
use Rattle.rules.specs.Relations.{Both, both-refused, passed}
use Rattle.rules.specs.Cells.{number_cells}
use Rattle.rules.specs.Step.{Environment, State, Next, step}
use Rattle.rules.proofs.Resumption.WrittenBehind.{with_written, Behind, behind, NextBehind, next-behind, step-behind}
use Rattle.sheets.specs.Lines.{is_short}
use Rattle.sheets.specs.Traced.{TracedResult, refuses, unread, short, passes, after, unread_where, short_where, TracedState, TracedNext, traced_step}
use Rattle.sheets.specs.StepBeside.{meets_unread, line_here}
use Rattle.sheets.proofs.Stepping.{traced-beside}

abbrev pub TracedStep : Type 0
TracedStep = TracedResult (TracedNext number_cells)

-- the four are apart
abbrev pub place : TracedStep → ℕ
place (refuses f) = 0
place unread = 1
place short = 2
place (passes n) = 3

pub apart : {X : Type 0} {x : TracedStep} (y z : TracedStep) → x ≡ y → x ≡ z → (place y ≡ place z → ⊥) → X
apart y z e f n = absurd (n (ap place (sym e ∙ f)))

-- what an accepted one leaves, and its line
abbrev next_in : TracedStep → Next number_cells → Next number_cells
next_in (refuses f) n = n
next_in unread n = n
next_in short n = n
next_in (passes m) n = m.next

abbrev line_in : TracedStep → List ℕ
line_in (refuses f) = []
line_in unread = []
line_in short = []
line_in (passes m) = m.line

pub is-unread : (x : TracedStep) → place x ≡ 1 → x ≡ unread
is-unread (refuses f) h = absurd (omega arith)
is-unread unread h = refl
is-unread short h = absurd (omega arith)
is-unread (passes n) h = absurd (omega arith)

pub is-short : (x : TracedStep) → place x ≡ 2 → x ≡ short
is-short (refuses f) h = absurd (omega arith)
is-short unread h = absurd (omega arith)
is-short short h = refl
is-short (passes n) h = absurd (omega arith)

module _ (e : Environment) (sheet : ℕ) where
  -- By cases: the plain step, and the traced one

  pub data View (q : TracedState number_cells) : Result (Next number_cells) → TracedStep → Type 0 where
    refused-view : {f : Refusal} → meets_unread number_cells e q.plain ≡ false → View q (refuse f) (refuses f)
    unread-view : {y : Result (Next number_cells)} → meets_unread number_cells e q.plain ≡ true → View q y unread
    short-view : {n : Next number_cells} → meets_unread number_cells e q.plain ≡ false → is_short sheet (length q.lines) ≡ true
        → View q (pass n) short
    passed-view : {n : Next number_cells} → meets_unread number_cells e q.plain ≡ false → is_short sheet (length q.lines) ≡ false
        → View q (pass n) (passes (record { next = n; line = line_here number_cells e q.plain n }))

  pub view : (q : TracedState number_cells) → View q (step number_cells e q.plain) (traced_step number_cells e sheet q)
  unfolding unread_where after short_where
  view q =
      subst (View q (step number_cells e q.plain)) (sym (traced-beside number_cells e sheet q))
      (go (meets_unread number_cells e q.plain) refl (step number_cells e q.plain) (is_short sheet (length q.lines)) refl)
    where
      go : (b : Bool) → meets_unread number_cells e q.plain ≡ b → (y : Result (Next number_cells)) (c : Bool)
          → is_short sheet (length q.lines) ≡ c
          → View q y (unread_where b (after y λ n. short_where c (passes (record { next = n; line = line_here number_cells e q.plain n }))))
      go true h y c k = unread-view h
      go false h (refuse f) c k = refused-view h
      go false h (pass n) true k = short-view h k
      go false h (pass n) false k = passed-view h k

  -- what a view says of the plain step

  pub view-refused : {q : TracedState number_cells} {y : Result (Next number_cells)} {x : TracedStep} (f : Refusal) → View q y x
      → x ≡ refuses f
      → (meets_unread number_cells e q.plain ≡ false) × (y ≡ refuse f)
  view-refused f (refused-view {f = g} b) h = let z : g ≡ f = cc in (b, ap refuse z)
  view-refused f (unread-view b) h = apart unread (refuses f) refl h (λ z. omega arith)
  view-refused f (short-view b s) h = apart short (refuses f) refl h (λ z. omega arith)
  view-refused f (passed-view b s) h = apart _ (refuses f) refl h (λ z. omega arith)

  pub view-unread : {q : TracedState number_cells} {y : Result (Next number_cells)} {x : TracedStep} → View q y x → x ≡ unread
      → meets_unread number_cells e q.plain ≡ true
  view-unread (refused-view b) h = apart _ unread refl h (λ z. omega arith)
  view-unread (unread-view b) h = b
  view-unread (short-view b s) h = apart short unread refl h (λ z. omega arith)
  view-unread (passed-view b s) h = apart _ unread refl h (λ z. omega arith)

  pub view-short : {q : TracedState number_cells} {y : Result (Next number_cells)} {x : TracedStep} → View q y x → x ≡ short
      → (n : Next number_cells) × (meets_unread number_cells e q.plain ≡ false) × (y ≡ pass n) × (is_short sheet (length q.lines) ≡ true)
  view-short (refused-view b) h = apart _ short refl h (λ z. omega arith)
  view-short (unread-view b) h = apart unread short refl h (λ z. omega arith)
  view-short (short-view {n} b s) h = (n, b, refl, s)
  view-short (passed-view b s) h = apart _ short refl h (λ z. omega arith)

  pub view-passed : {q : TracedState number_cells} {y : Result (Next number_cells)} {x : TracedStep} (m : TracedNext number_cells)
      → View q y x → x ≡ passes m
      → (y ≡ pass m.next) × (line_here number_cells e q.plain m.next ≡ m.line)
  view-passed m (refused-view b) h = apart _ (passes m) refl h (λ z. omega arith)
  view-passed m (unread-view b) h = apart unread (passes m) refl h (λ z. omega arith)
  view-passed m (short-view b s) h = apart short (passes m) refl h (λ z. omega arith)
  view-passed {q} m (passed-view {n} b s) h =
      let z : n ≡ m.next = ap (λ x. next_in x n) h in
      (ap pass z, ap (line_here number_cells e q.plain) (sym z) ∙ ap line_in h)

  -- only the number of the lines counts
  pub lines-count : (s : State number_cells) (l m : List (List ℕ)) → length l ≡ length m
      → traced_step number_cells e sheet (record { plain = s; lines = l }) ≡ traced_step number_cells e sheet (record { plain = s; lines = m })
  lines-count s l m h =
      traced-beside number_cells e sheet (record { plain = s; lines = l })
      ∙ ap (λ k. unread_where (meets_unread number_cells e s)
      (after (step number_cells e s) λ n. short_where (is_short sheet k)
      (passes (record { next = n; line = line_here number_cells e s n })))) h
      ∙ sym (traced-beside number_cells e sheet (record { plain = s; lines = m }))

  -- What is written behind the output

  pub data BothTraced (w : List ℕ) : TracedStep → TracedStep → Type 0 where
    refused-both : {f : Refusal} → BothTraced w (refuses f) (refuses f)
    unread-both : BothTraced w unread unread
    short-both : BothTraced w short short
    passed-both : {n m : Next number_cells} {l : List ℕ} → NextBehind w n m
        → BothTraced w (passes (record { next = n; line = l })) (passes (record { next = m; line = l }))

  pub both-places : {w : List ℕ} {x y : TracedStep} → BothTraced w x y → place x ≡ place y
  both-places refused-both = refl
  both-places unread-both = refl
  both-places short-both = refl
  both-places (passed-both h) = refl

  -- where the one is accepted, so is the other, with the same line
  pub record PassesToo (w : List ℕ) (n : TracedNext number_cells) (y : TracedStep) : Type 0 where
    pub next : Next number_cells
    pub passed : y ≡ passes (record { next = next; line = n.line })
    pub behind : NextBehind w n.next next

  pub passes-too : {w : List ℕ} {x y : TracedStep} (n : TracedNext number_cells) → BothTraced w x y → x ≡ passes n → PassesToo w n y
  passes-too n refused-both h = apart _ (passes n) refl h (λ z. omega arith)
  passes-too n unread-both h = apart unread (passes n) refl h (λ z. omega arith)
  passes-too n short-both h = apart short (passes n) refl h (λ z. omega arith)
  passes-too {w} n (passed-both {n = m} {m = k} b) h =
      record {
        next = k;
        passed = λ i. passes (record { next = k; line = ap line_in h i });
        behind = subst (λ m. NextBehind w m k) (ap (λ x. next_in x m) h) b;
      }

  pub traced-behind : {w : List ℕ} {s t : State number_cells} (l : List (List ℕ)) → Behind w s t
      → BothTraced w (traced_step number_cells e sheet (record { plain = s; lines = l }))
      (traced_step number_cells e sheet (record { plain = t; lines = l }))
  unfolding unread_where after short_where
  traced-behind {w} l (behind {s} v h) =
      rw (
        traced-beside number_cells e sheet (record { plain = s; lines = l }),
        traced-beside number_cells e sheet
            (record { plain = with_written s v; lines = l }),
      )
      (go (meets_unread number_cells e s) (is_short sheet (length l)) (step-behind w e (behind {s = s} v h)))
    where
      go : (b c : Bool) {x y : Result (Next number_cells)} → Both (NextBehind w) x y
          → BothTraced w
          (unread_where b (after x λ n. short_where c (passes (record { next = n; line = line_here number_cells e s n }))))
          (unread_where b (after y λ n. short_where c (passes (record { next = n; line = line_here number_cells e (with_written s v) n }))))
      go true c r = unread-both
      go false c both-refused = refused-both
      go false true (passed k) = short-both
      go false false (passed (next-behind u k)) = passed-both (next-behind u k)
