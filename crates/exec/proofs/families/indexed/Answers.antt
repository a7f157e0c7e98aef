-- `exec::families::indexed` meets its contract: each arm is the loop of its size.
use mathlib.Core.Path.{refl, sym, subst}
use Prim.Native.Nat.{◌<◌}
use Rattle.isa.specs.Encode.{by_size}
use Rattle.isa.specs.Register.{pairs, bytes}
use Rattle.isa.specs.Sources.{indexed_rule}
use Rattle.isa.specs.declared.types.Size.TheVariants.{H, S}
use Rattle.exec.proofs.Operation.{swept_at, by-limit}
use Rattle.exec.proofs.families.indexed.Goals as goal

pub returns-in-H : goal.returns-in-H
unfolding pairs bytes
returns-in-H g c = let a = c.args in
    let size = c.in-H.is in
    let small : a.index < 4 = subst (λ z. a.index < by_size 4 2 z) size c.requires.size_value.1 in
    swept_at a.l (λ z. indexed_rule _ z a.index a.rot) a.file.now a.at.dest a.at.first a.at.second _ size
    (swept_at a.l (λ i. indexed_rule _ H i a.rot) a.file.now a.at.dest a.at.first a.at.second _ (sym (by-limit a.index 4 a.index small refl)) c.indexed.ensures)

pub returns-in-S : goal.returns-in-S
unfolding pairs bytes
returns-in-S g c = let a = c.args in
    let size = c.in-S.is in
    let small : a.index < 2 = subst (λ z. a.index < by_size 4 2 z) size c.requires.size_value.1 in
    swept_at a.l (λ z. indexed_rule _ z a.index a.rot) a.file.now a.at.dest a.at.first a.at.second _ size
    (swept_at a.l (λ i. indexed_rule _ S i a.rot) a.file.now a.at.dest a.at.first a.at.second _ (sym (by-limit a.index 2 a.index small refl)) c.indexed-in-S.ensures)
