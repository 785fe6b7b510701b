-- Refusal 2 carries the earliest malformed frame.
use Rattle.std.specs.Prelude.{Option, Some, None}
use Prim.Native.Nat.{ℕ, zero, suc, ◌≤◌}
use mathlib.Core.Path.{◌≡◌, refl, sym, ap, ◌∙◌}
use mathlib.Core.Bool.{Bool, true, false, not, ◌&&◌}
use mathlib.Core.List.{List, [], ◌∷◌, ◌++◌, map, append-nil}
use native.Mathlib.Omega.{arith}
use lib.Dec.{leb}
use lib.ListN.{length}
use Rattle.rules.specs.declared.Instruction.{Instruction}
use Rattle.rules.specs.declared.Refusal.{Refusal}
use Rattle.rules.specs.declared.Refusal.TheVariants.{BadLength, MalformedFrame, BadState}
use Rattle.rules.specs.Numbers.{text_limit, choose}
use Rattle.rules.specs.Results.{Result, refuse, pass, require}
use Rattle.rules.specs.Frames.{value_count, frame_of, on_frame, frames_after, is_malformed, any_of, earliest_malformed, count_fits, instructions, load_frames, load_words}
use Rattle.rules.specs.Text.{Line, Job, line_feed, lines_of, frame_of_line, load_text, load_job, load_budget_text}
use Rattle.rules.specs.Answers.{refusal, refusal_meaning}
use Rattle.rules.specs.Entry.{Snapshot, GuardedSnapshot, plain_entry, guarded_entry, environment, state_of, guarded_state_of}
use Rattle.rules.specs.Calls.{Called, refused_call, job_program, job_budget, plain_call, plain_words, plain_text, plain_budget_text, guarded_call, guarded_words, guarded_text, guarded_budget_text}
use Rattle.rules.specs.Solve.{decimal, zero_fields, spaced, carried_fields, printed, solve_start, solve}
use Rattle.rules.specs.EveryCall.{at_entry, when}
use Rattle.rules.specs.MalformedFrames.{MalformedAt, here, further, Earliest, this, later, EarliestIsLeast, Numbered, numbered_words, OneAmongWords, numbered_text, job_frames, malformed_job, numbered_budget_text, ToCarry, CarriesEarliest, CallsCarryEarliest}
use Rattle.rules.proofs.Laws.BoolLaws.{false-true}
use Rattle.rules.proofs.Laws.ResultLaws.{refuse-pass}
use Rattle.rules.proofs.Laws.AnswerLaws.{malformed-refusal}
use Rattle.rules.proofs.EveryCall.PlainEnds.{run_past}
use Rattle.rules.proofs.EveryCall.GuardedEnds.{guarded-run-past}

-- The earliest malformed frame

is-defined : {n r : ℕ} {bs : List Bool} → Earliest n bs r → earliest_malformed n bs ≡ r
unfolding earliest_malformed
is-defined this = refl
is-defined (later e) = is-defined e

some-malformed : {n r : ℕ} {bs : List Bool} → Earliest n bs r → any_of bs ≡ true
some-malformed this = refl
some-malformed (later e) = some-malformed e

defined : (n : ℕ) (bs : List Bool) → any_of bs ≡ true → Earliest n bs (earliest_malformed n bs)
unfolding earliest_malformed
defined n [] h = absurd (false-true h)
defined n (true ∷ bs) h = this
defined n (false ∷ bs) h = later (defined (suc n) bs h)

malformed : {n r : ℕ} {bs : List Bool} → Earliest n bs r → MalformedAt n bs r
malformed this = here
malformed (later e) = further (malformed e)

from_first : {n q : ℕ} {bs : List Bool} → MalformedAt n bs q → n ≤ q
from_first here = omega arith
from_first (further m) = let h = from_first m in omega arith

least : {n r q : ℕ} {bs : List Bool} → Earliest n bs r → MalformedAt n bs q → r ≤ q
least this m = from_first m
least (later e) (further m) = least e m

least-is-earliest : {n r : ℕ} {bs : List Bool} → MalformedAt n bs r → ((q : ℕ) → MalformedAt n bs q → r ≤ q) → Earliest n bs r
least-is-earliest here h = this
least-is-earliest (further {n = n} {b = true} m) h = let l = h n here in let k = from_first m in absurd (omega arith)
least-is-earliest (further {b = false} m) h = later (least-is-earliest m (λ q k. h q (further k)))

pub earliest-is-least : EarliestIsLeast
earliest-is-least =
    record {
      defined = defined;
      unique = λ e f. sym (is-defined e) ∙ is-defined f;
      malformed = malformed;
      least = least;
      least_is_earliest = least-is-earliest;
    }

-- Bare words have one malformed frame at most

one-of-frame : (n : ℕ) (f : Option Instruction) (fs : List (Option Instruction)) {r q : ℕ}
    → (MalformedAt (suc n) (map is_malformed fs) r → MalformedAt (suc n) (map is_malformed fs) q → r ≡ q)
    → MalformedAt n (map is_malformed (on_frame f fs)) r → MalformedAt n (map is_malformed (on_frame f fs)) q → r ≡ q
one-of-frame n (Some i) fs h (further a) (further b) = h a b
one-of-frame n None fs h here here = refl
one-of-frame n None fs h here (further b) = elim b [ ]
one-of-frame n None fs h (further a) _ = elim a [ ]

one-of-frames : (n skip : ℕ) (ws : List ℕ) {r q : ℕ}
    → MalformedAt n (map is_malformed (frames_after skip ws)) r → MalformedAt n (map is_malformed (frames_after skip ws)) q → r ≡ q
unfolding frames_after
one-of-frames n zero [] a b = elim a [ ]
one-of-frames n (suc skip) [] a b = elim a [ ]
one-of-frames n zero (w ∷ ws) a b = one-of-frame n (frame_of (w ∷ ws)) (frames_after (value_count w) ws) (one-of-frames (suc n) (value_count w) ws) a b
one-of-frames n (suc skip) (w ∷ ws) a b = one-of-frames n skip ws a b

pub one-among-words : OneAmongWords
one-among-words words r q a b = one-of-frames 1 0 words a b

-- Loading: a program is refused 2 exactly where a number is to be carried

pub record LoadsEarliest (f : Numbered) {A : Type 0} (loaded : Result A) : Type 0 where
  pub carries : (n : ℕ) → loaded ≡ refuse (MalformedFrame n) → ToCarry f n
  pub refuses : (n : ℕ) → ToCarry f n → loaded ≡ refuse (MalformedFrame n)

length-is-not : {A X : Type 0} {n : ℕ} → ◌≡◌ {A = Result A} (refuse BadLength) (refuse (MalformedFrame n)) → X
length-is-not h = absurd (let z : ◌≡◌ {A = ℕ} 0 1 = cc in omega arith)

-- refused 1
out_of_order : {A : Type 0} {first : ℕ} {bs : List Bool} → LoadsEarliest (record { in_order = false; first = first; malformed = bs }) {A = A} (refuse BadLength)
out_of_order = record { carries = λ n e. length-is-not e; refuses = λ n k. absurd (false-true k.in_order) }

-- the tests of count and form
tests : {A : Type 0} (c : Bool) (first : ℕ) (bs : List Bool) (a : A)
    → LoadsEarliest (record { in_order = c; first = first; malformed = bs })
    (require c BadLength (require (not (any_of bs)) (MalformedFrame (earliest_malformed first bs)) (pass a)))
unfolding require
tests false first bs a = out_of_order
tests {A} true first bs a =
    record {
      carries = λ n e. go n (any_of bs) refl e;
      refuses = λ n k. rw (some-malformed k.earliest, is-defined k.earliest);
    }
  where
    go : (n : ℕ) (b : Bool) → any_of bs ≡ b → require (not b) (MalformedFrame (earliest_malformed first bs)) (pass a) ≡ refuse (MalformedFrame n)
        → ToCarry (record { in_order = true; first = first; malformed = bs }) n
    go n true s e =
        let z : earliest_malformed first bs ≡ n = cc in
        record { in_order = refl; earliest = rw (sym z) (defined first bs s) }
    go n false s e = refuse-pass (sym e)

-- the test of a text's length before them
in-length : {A : Type 0} (l : Bool) {c : Bool} {first : ℕ} {bs : List Bool} {r : Result A}
    → LoadsEarliest (record { in_order = c; first = first; malformed = bs }) r
    → LoadsEarliest (record { in_order = l && c; first = first; malformed = bs }) (require l BadLength r)
unfolding require
in-length true h = h
in-length false h = out_of_order

frames-earliest : (fs : List (Option Instruction)) → LoadsEarliest (record { in_order = count_fits fs; first = 1; malformed = map is_malformed fs }) (load_frames fs)
unfolding load_frames
frames-earliest fs = tests (count_fits fs) 1 (map is_malformed fs) (instructions fs)

pub words-earliest : (words : List ℕ) → LoadsEarliest (numbered_words words) (load_words words)
unfolding load_words
words-earliest words = frames-earliest (frames_after 0 words)

pub text-earliest : (text : List ℕ) → LoadsEarliest (numbered_text text) (load_text text)
unfolding load_text
text-earliest text = in-length (leb (length text) text_limit) (frames-earliest (map frame_of_line (lines_of text)))

lines-earliest : (lines : List Line)
    → LoadsEarliest (record { in_order = count_fits (job_frames lines); first = 0; malformed = malformed_job lines }) (load_job lines)
unfolding load_job count_fits
lines-earliest [] = out_of_order
lines-earliest (b ∷ lines) = tests (count_fits (map frame_of_line lines)) 0 (malformed_job (b ∷ lines)) _

-- a job's program is refused where the job is
job-refused : (r : Result Job) (g : Refusal) → job_program r ≡ refuse g → r ≡ refuse g
job-refused (refuse f) g e = let z : f ≡ g = cc in ap refuse z
job-refused (pass j) g e = refuse-pass (sym e)

pub budget-text-earliest : (text : List ℕ) → LoadsEarliest (numbered_budget_text text) (job_program (load_budget_text text))
unfolding load_budget_text
budget-text-earliest text =
    let h = in-length (leb (length text) text_limit) (lines-earliest (lines_of text)) in
    record { carries = λ n e. h.carries n (job-refused _ _ e); refuses = λ n k. ap job_program (h.refuses n k) }

-- Whole calls

-- a call that is refused as its program is
as-loaded : (f : Numbered) {S : Type 0} (s : S) (g : Refusal) → LoadsEarliest f {A = List Instruction} (refuse g) → CarriesEarliest f s (refused_call g s)
unfolding refusal_meaning
as-loaded f s g h =
    record {
      carries = λ values e. let z = malformed-refusal g values e in (z.0, z.1, h.carries z.0 (ap refuse z.2));
      refuses = λ n k. let e : refuse g ≡ refuse (MalformedFrame n) = h.refuses n k in let z : g ≡ MalformedFrame n = cc in ap (λ g. refused_call g s) z;
    }

-- and one whose program is loaded: the state is unfit, or the run gets past the entry
unfit-or-run : {S : Type 0} (b : Bool) (ran : Called S) (s : S) → (when ran.answer ≡ at_entry → ⊥) → (values : List ℕ)
    → (choose b ran (refused_call BadState s)).answer ≡ refusal 2 values → ⊥
unfolding refusal_meaning
unfit-or-run true ran s h values e = h (ap when e)
unfit-or-run false ran s h values e = let z : ◌≡◌ {A = ℕ} 3 2 = cc in omega arith

entered : (f : Numbered) {S : Type 0} (s : S) (call : Called S) {program : List Instruction} → LoadsEarliest f (pass program)
    → ((values : List ℕ) → call.answer ≡ refusal 2 values → ⊥) → CarriesEarliest f s call
entered f s call h q = record { carries = λ values e. absurd (q values e); refuses = λ n k. refuse-pass (sym (h.refuses n k)) }

plain-carries : (f : Numbered) (loaded : Result (List Instruction)) → LoadsEarliest f loaded → (budget : ℕ) (s : Snapshot)
    → CarriesEarliest f s (plain_call loaded budget s)
unfolding plain_call
plain-carries f (refuse g) h budget s = as-loaded f s g h
plain-carries f (pass program) h budget s =
    entered f s _ h (unfit-or-run (plain_entry s) _ s (run_past (environment program s) budget (state_of s)))

guarded-carries : (f : Numbered) (loaded : Result (List Instruction)) → LoadsEarliest f loaded → (budget : ℕ) (g : GuardedSnapshot)
    → CarriesEarliest f g (guarded_call loaded budget g)
unfolding guarded_call
guarded-carries f (refuse r) h budget g = as-loaded f g r h
guarded-carries f (pass program) h budget g =
    entered f g _ h (unfit-or-run (guarded_entry g) _ g (guarded-run-past (environment program g.plain) budget (guarded_state_of g)))

budget-text-carries : (text : List ℕ) (s : Snapshot) → CarriesEarliest (numbered_budget_text text) s (plain_budget_text text s)
unfolding plain_budget_text
budget-text-carries text s = plain-carries _ _ (budget-text-earliest text) (job_budget (load_budget_text text)) s

solve-prints : (text : List ℕ) (n : ℕ) → ToCarry (numbered_budget_text text) n → solve text ≡ decimal 2 ++ (zero_fields ++ (spaced n ++ (line_feed ∷ [])))
unfolding solve printed carried_fields
solve-prints text n k =
    ap printed ((budget-text-carries text solve_start).refuses n k)
    ∙ ap (λ (carried : List ℕ). decimal 2 ++ (zero_fields ++ (carried ++ (line_feed ∷ [])))) (append-nil (spaced n))

pub calls-carry-earliest : CallsCarryEarliest
unfolding plain_words plain_text guarded_words guarded_text guarded_budget_text
calls-carry-earliest =
    record {
      of_words = λ words. plain-carries _ _ (words-earliest words);
      of_text = λ text. plain-carries _ _ (text-earliest text);
      of_budget_text = budget-text-carries;
      of_budget_text_check = λ text. plain-carries _ _ (budget-text-earliest text) 0;
      of_guarded_words = λ words. guarded-carries _ _ (words-earliest words);
      of_guarded_text = λ text. guarded-carries _ _ (text-earliest text);
      of_guarded_budget_text = λ text. guarded-carries _ _ (budget-text-earliest text) (job_budget (load_budget_text text));
      of_guarded_budget_text_check = λ text. guarded-carries _ _ (budget-text-earliest text) 0;
      solve_prints = solve-prints;
    }
