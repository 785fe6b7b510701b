-- `carrying::carry_out` meets its contract: a law for each kind of effect.
use Prim.Native.Nat.{ℕ, ◌<◌}
use mathlib.Core.Path.{◌≡◌, refl, ap, subst}
use mathlib.Core.Bool.{Bool}
use mathlib.Core.List.{List}
use native.Mathlib.Omega.{arith}
use lib.ListN.{length, take, length-set}
use lib.Seq.{take-set-lt, drop-set-lt}
use borrow.Author.Rules.{rules}
use Rattle.effects.specs.declared.Effect.{Effect}
use Rattle.effects.specs.declared.Effect.TheVariants as E
use Rattle.effects.specs.Effects.{Change, meant, Placed}
use Rattle.carrying.specs.Cores.{Core, core_of}
use Rattle.carrying.specs.Steps.{Carriable}
use Rattle.carrying.proofs.Arms.{register-named, write-asks, insert-asks, load_asks, tape-asks, output-asks, call_asks}
use Rattle.carrying.proofs.Arms.{sets-register, writes-cell, stores-cell, jumps, loads-tape, stores-tape, calls-contract}
use Rattle.carrying.proofs.Arms.{ends-run, refuses-step, sinks}
use Rattle.carrying.proofs.carry_out.Goals as goal
use Rattle.carrying.proofs.carry_out.Goals.{Start}

abbrev core : Start → Core
core s =
    let a = s.args in
    core_of a.mode (take 10 a.values.now) a.pc a.clk a.counts a.addresses.now a.numbers.now a.moments.now a.marks.now
    a.tape.now a.output.now

abbrev change : Start → Change
change s = meant s.args.mark s.args.effect

can : (s : Start) → Carriable (change s) (core s)
can s = s.requires.carriable

four : (s : Start) → length s.args.storage_addr ≡ 4
four s = search rules

-- what a known effect means, and where its cell is

meant-by : (t : Bool) {a b : Effect} → a ≡ b → meant t a ≡ meant t b
meant-by t e = ap (meant t) e

placed_by : (l : List ℕ) {a b : Effect} → a ≡ b → Placed l a → Placed l b
placed_by l e p = subst (Placed l) e p

-- the register that is set
register-below : (s : Start) {r n next : ℕ} {m : Bool} → s.args.effect ≡ E.SetRegister r n m next → r < 10
unfolding meant
register-below s e = register-named (core s) s.args.storage_addr (change s) (can s) _ _ _ _ (meant-by s.args.mark e)

-- a product's register
product-below : (s : Start) {r n a b next : ℕ} {m : Bool} → s.args.effect ≡ E.SetProduct r n a m b next → r < 10
unfolding meant
product-below s e = register-named (core s) s.args.storage_addr (change s) (can s) _ _ _ _ (meant-by s.args.mark e)

pub offset_bounds-values-register : goal.offset_bounds-values-register
offset_bounds-values-register c =
    let s = (goal.at.offset_bounds-values-register c).Start in
    omega (arith, register-below s c.in-SetRegister.is)

pub bounds-values-register : goal.bounds-values-register
bounds-values-register c =
    let s = (goal.at.bounds-values-register c).Start in
    omega (arith, register-below s c.in-SetRegister.is, c.requires.in_bounds)

pub marks_after-requires-clause-register_bound : goal.marks_after-requires-clause-register_bound
marks_after-requires-clause-register_bound c = register-below (goal.at.marks_after-requires-clause-register_bound c).Start c.in-SetRegister.is

pub product_marks_after-extras-requires-clause-register_bound : goal.product_marks_after-extras-requires-clause-register_bound
product_marks_after-extras-requires-clause-register_bound c =
    product-below (goal.at.product_marks_after-extras-requires-clause-register_bound c).Start c.in-SetProduct.is

pub offset_bounds-values-register-in-SetProduct : goal.offset_bounds-values-register-in-SetProduct
offset_bounds-values-register-in-SetProduct c =
    let s = (goal.at.offset_bounds-values-register-in-SetProduct c).Start in
    omega (arith, product-below s c.in-SetProduct.is)

pub bounds-values-register-in-SetProduct : goal.bounds-values-register-in-SetProduct
bounds-values-register-in-SetProduct c =
    let s = (goal.at.bounds-values-register-in-SetProduct c).Start in
    omega (arith, product-below s c.in-SetProduct.is, c.requires.in_bounds)

pub write_at-requires : goal.write_at-requires
unfolding Placed
write_at-requires c =
    let s = (goal.at.write_at-requires c).Start in
    let f = placed_by (take c.args.counts.cells c.args.addresses.now) c.in-StoreAt.is c.requires.placed in
    let a = write-asks (core s) c.args.storage_addr (change s) (can s) _ _ f in
    record { at_in_bounds = a.0; at_in_bounds_2 = a.1.0; at_in_bounds_3 = a.1.1 }

pub insert-requires : goal.insert-requires
unfolding meant Placed
insert-requires c =
    let s = (goal.at.insert-requires c).Start in
    let e = meant-by c.args.mark c.in-Insert.is in
    let f = placed_by (take c.args.counts.cells c.args.addresses.now) c.in-Insert.is c.requires.placed in
    let a = insert-asks (core s) c.args.storage_addr (change s) (can s) _ _ _ _ _ e f in
    record { ordered = a.0; count_in_bounds = a.1.0; at_value = a.1.1 }

pub load_tape-cells-requires : goal.load_tape-cells-requires
unfolding meant
load_tape-cells-requires c =
    let s = (goal.at.load_tape-cells-requires c).Start in
    let e = meant-by c.args.mark c.in-LoadTape.is in
    let a = load_asks (core s) c.args.storage_addr (change s) (can s) _ _ _ _ e in
    record { ordered = a.0; n_in_bounds = a.1.0; n_bound = a.1.1.0; tape_in_bounds = a.1.1.1 }

pub append_numbers-requires : goal.append_numbers-requires
unfolding meant
append_numbers-requires c =
    let s = (goal.at.append_numbers-requires c).Start in
    let e = meant-by c.args.mark c.in-StoreTape.is in
    let a = tape-asks (core s) c.args.storage_addr (change s) (can s) _ _ _ e in
    record { n_in_bounds = a.0; n_in_bounds_2 = a.1 }

pub append_numbers-requires-in-StoreTape : goal.append_numbers-requires-in-StoreTape
unfolding meant
append_numbers-requires-in-StoreTape c =
    let s = (goal.at.append_numbers-requires-in-StoreTape c).Start in
    let e = meant-by c.args.mark c.in-StoreTape.is in
    let a = output-asks (core s) c.args.storage_addr (change s) (can s) _ _ _ e in
    record { n_in_bounds = a.0; n_in_bounds_2 = a.1 }

pub overflow_add-result-in-StoreTape : goal.overflow_add-result-in-StoreTape
unfolding meant
overflow_add-result-in-StoreTape c =
    let s = (goal.at.overflow_add-result-in-StoreTape c).Start in
    let e = meant-by c.args.mark c.in-StoreTape.is in
    omega (arith, (tape-asks (core s) c.args.storage_addr (change s) (can s) _ _ _ e).1, c.well_formed)

pub overflow_add-result-in-StoreTape-2 : goal.overflow_add-result-in-StoreTape-2
unfolding meant
overflow_add-result-in-StoreTape-2 c =
    let s = (goal.at.overflow_add-result-in-StoreTape-2 c).Start in
    let e = meant-by c.args.mark c.in-StoreTape.is in
    omega (arith, (output-asks (core s) c.args.storage_addr (change s) (can s) _ _ _ e).1, c.well_formed)

pub call_contract-answer-requires : goal.call_contract-answer-requires
unfolding meant
call_contract-answer-requires c =
    let s = (goal.at.call_contract-answer-requires c).Start in
    let e = meant-by c.args.mark c.in-CallContract.is in
    let a = call_asks (core s) c.args.storage_addr (change s) (can s) _ _ _ e in
    record { at_in_bounds = a.0; count_in_bounds = a.1 }

pub returns-in-SetRegister : goal.returns-in-SetRegister
unfolding meant
returns-in-SetRegister c =
    let s = (goal.at.returns-in-SetRegister c).Start in
    let e = meant-by c.args.mark c.in-SetRegister.is in
    let r = register-below s c.in-SetRegister.is in
    let g = take-set-lt 10 c.args.values.now _ _ r in record {
      carried_out = sets-register (core s) c.args.storage_addr (change s) (can s) _ _ _ _ _ _ e g c.marks_after.ensures;
      values_len_unchanged = (length-set c.args.values.now _ _, drop-set-lt 10 c.args.values.now _ _ r);
    }

pub returns-in-SetProduct : goal.returns-in-SetProduct
unfolding meant
returns-in-SetProduct c =
    let s = (goal.at.returns-in-SetProduct c).Start in
    let e = meant-by c.args.mark c.in-SetProduct.is in
    let r = product-below s c.in-SetProduct.is in
    let g = take-set-lt 10 c.args.values.now _ _ r in record {
      carried_out = sets-register (core s) c.args.storage_addr (change s) (can s) _ _ _ _ _ _ e g c.product_marks_after-extras.ensures;
      values_len_unchanged = (length-set c.args.values.now _ _, drop-set-lt 10 c.args.values.now _ _ r);
    }

pub returns-in-StoreAt : goal.returns-in-StoreAt
unfolding meant Placed
returns-in-StoreAt c =
    let s = (goal.at.returns-in-StoreAt c).Start in
    let e = meant-by c.args.mark c.in-StoreAt.is in
    let f = placed_by (take c.args.counts.cells c.args.addresses.now) c.in-StoreAt.is c.requires.placed in
    let w = c.write_at.ensures in
    record {
      carried_out = writes-cell (core s) c.args.storage_addr (change s) (can s) _ _ _ _ _ _ _ _ e f w.numbers_after w.moments_after w.marks_after;
      values_len_unchanged = (refl, refl);
    }

pub returns-in-Insert : goal.returns-in-Insert
unfolding meant
returns-in-Insert c =
    let s = (goal.at.returns-in-Insert c).Start in
    let e = meant-by c.args.mark c.in-Insert.is in
    let w = c.insert.ensures in
    record {
      carried_out = stores-cell (core s) c.args.storage_addr (change s) (can s) _ _ _ _ _ _ _ _ _ e w;
      values_len_unchanged = (refl, refl);
    }

pub returns-in-Jump : goal.returns-in-Jump
unfolding meant
returns-in-Jump c =
    let s = (goal.at.returns-in-Jump c).Start in
    let e = meant-by c.args.mark c.in-Jump.is in
    record {
      carried_out = jumps (core s) c.args.storage_addr (change s) (can s) _ e;
      values_len_unchanged = (refl, refl);
    }

pub returns-in-LoadTape : goal.returns-in-LoadTape
unfolding meant
returns-in-LoadTape c =
    let s = (goal.at.returns-in-LoadTape c).Start in
    let e = meant-by c.args.mark c.in-LoadTape.is in
    let w = c.load_tape-cells.ensures in
    record {
      carried_out = loads-tape (core s) c.args.storage_addr (change s) (can s) _ _ _ _ _ _ _ _ _ e w;
      values_len_unchanged = (refl, refl);
    }

pub returns-in-StoreTape : goal.returns-in-StoreTape
unfolding meant
returns-in-StoreTape c =
    let s = (goal.at.returns-in-StoreTape c).Start in
    let e = meant-by c.args.mark c.in-StoreTape.is in
    let w = c.append_numbers.ensures in
    let o = c.append_numbers-in-StoreTape.ensures in
    record {
      carried_out = stores-tape (core s) c.args.storage_addr (change s) (can s) _ _ _ _ _ e w o;
      values_len_unchanged = (refl, refl);
    }

pub returns-in-CallContract : goal.returns-in-CallContract
unfolding meant
returns-in-CallContract c =
    let s = (goal.at.returns-in-CallContract c).Start in
    let e = meant-by c.args.mark c.in-CallContract.is in
    let w = c.call_contract-answer.ensures in
    record {
      carried_out = calls-contract (core s) c.args.storage_addr (change s) (can s) (four s) _ _ _ _ _ e w.value w.tape_after;
      values_len_unchanged = (refl, refl);
    }

pub returns-in-End : goal.returns-in-End
unfolding meant
returns-in-End c =
    let s = (goal.at.returns-in-End c).Start in
    let e = meant-by c.args.mark c.in-End.is in
    record {
      carried_out = ends-run (core s) c.args.storage_addr (change s) (can s) _ e;
      values_len_unchanged = (refl, refl);
    }

pub returns-in-Refuse : goal.returns-in-Refuse
unfolding meant
returns-in-Refuse c =
    let s = (goal.at.returns-in-Refuse c).Start in
    let e = meant-by c.args.mark c.in-Refuse.is in
    record {
      carried_out = refuses-step (core s) c.args.storage_addr (change s) (can s) _ e;
      values_len_unchanged = (refl, refl);
    }

pub returns-in-Sink : goal.returns-in-Sink
unfolding meant
returns-in-Sink c =
    let s = (goal.at.returns-in-Sink c).Start in
    let e = meant-by c.args.mark c.in-Sink.is in
    record {
      carried_out = sinks (core s) c.args.storage_addr (change s) (can s) e;
      values_len_unchanged = (refl, refl);
    }
