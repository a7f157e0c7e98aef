-- `regfile::part::part_of` meets its contract: a register that is there ends within the file, and a refusal cuts out nothing.
use native.Mathlib.Omega.{arith}
use Rattle.isa.proofs.FileChecks.{register-ends}
use Rattle.regfile.proofs.Cut.{cut-refused, cut-found}
use Rattle.regfile.proofs.part.part_of.Goals as goal

pub returns-then-is_err : goal.returns-then-is_err
returns-then-is_err c = let a = c.args in cut-refused a.l a.size a.n cc

pub offset-start-requires : goal.offset-start-requires
offset-start-requires c =
    let g = register-ends c.args.l c.args.size c.args.n cc in
    record { width = omega (arith, g.short); number = g.below }

pub overflow_add-result : goal.overflow_add-result
overflow_add-result c =
    let g = register-ends c.args.l c.args.size c.args.n cc in
    omega (arith, g.ends, g.short, g.below, c.offset-start.ensures)

pub returns : goal.returns
returns c = let a = c.args in cut-found a.l a.size a.n _ (cc) c.offset-start.ensures
