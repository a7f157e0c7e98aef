use mathlib.Core.Path.{◌∙◌}
use Rattle.isa.specs.declared.types.Op.{Op}
use Rattle.fields.proofs.Named.{mapped, family-at, family-rest}
use Rattle.fields.proofs.naming.family_named.Goals as goal

pub returns-in-0 : goal.returns-in-0
returns-in-0 c = mapped Op.Cadd _ _ c.add_named.ensures c.map.ensures.cases ∙ family-at c.args.n 0 c.in-0.is

pub returns-in-1 : goal.returns-in-1
returns-in-1 c = mapped Op.Sqcadd _ _ c.add_named-in-1.ensures c.map-in-1.ensures.cases ∙ family-at c.args.n 1 c.in-1.is

pub returns-in-2 : goal.returns-in-2
returns-in-2 c = mapped Op.Cmla _ _ c.mul_named.ensures c.map-in-2.ensures.cases ∙ family-at c.args.n 2 c.in-2.is

pub returns-in-3 : goal.returns-in-3
returns-in-3 c = mapped Op.CmlaIndexed _ _ c.indexed_named.ensures c.map-in-3.ensures.cases ∙ family-at c.args.n 3 c.in-3.is

pub returns-in-4 : goal.returns-in-4
returns-in-4 c = mapped Op.Sqrdcmlah _ _ c.mul_named-in-4.ensures c.map-in-4.ensures.cases ∙ family-at c.args.n 4 c.in-4.is

pub returns-in-5 : goal.returns-in-5
returns-in-5 c = mapped Op.SqrdcmlahIndexed _ _ c.indexed_named-in-5.ensures c.map-in-5.ensures.cases ∙ family-at c.args.n 5 c.in-5.is

pub returns-in-6 : goal.returns-in-6
returns-in-6 c = mapped Op.Sqrdmlah _ _ c.element_named.ensures c.map-in-6.ensures.cases ∙ family-at c.args.n 6 c.in-6.is

pub returns-in-7 : goal.returns-in-7
returns-in-7 c = mapped Op.Sqrdmlsh _ _ c.element_named-in-7.ensures c.map-in-7.ensures.cases ∙ family-at c.args.n 7 c.in-7.is

pub returns-in-8 : goal.returns-in-8
returns-in-8 c = mapped Op.Sqdmulh _ _ c.group_named.ensures c.map-in-8.ensures.cases ∙ family-at c.args.n 8 c.in-8.is

pub returns-in_default : goal.returns-in_default
returns-in_default c = let r = c.in_default.in_default-own.rest in
    family-rest c.args.n r.0.0.0.0.0.0.0.0.1 r.0.0.0.0.0.0.0.1 r.0.0.0.0.0.0.1 r.0.0.0.0.0.1 r.0.0.0.0.1 r.0.0.0.1 r.0.0.1 r.0.1 r.1
