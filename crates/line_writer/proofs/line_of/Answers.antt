-- The pattern and the values of the operation are those of the definition.
use mathlib.Core.Path.{◌∙◌}
use Rattle.grammar.proofs.Width.{line-short}
use Rattle.line_writer.proofs.Writing.{few-writable, low-writable, pattern-low, line-is}
use Rattle.line_writer.proofs.line_of.Goals as goal

pub values_of-values-requires : goal.values_of-values-requires
values_of-values-requires c = few-writable c.args.op c.requires

pub template_at-t-requires : goal.template_at-t-requires
template_at-t-requires c = pattern-low c.args.op c.pattern_of.result c.requires c.pattern_of.ensures

pub fill_template-requires : goal.fill_template-requires
fill_template-requires c = let is = line-is c.args.op c.template_at-t.result.text.now c.values_of-values.result c.pattern_of.result c.template_at-t.ensures.items c.pattern_of.ensures c.values_of-values.ensures in
    (low-writable c.args.op c.values_of-values.result c.requires c.values_of-values.ensures, rw is (line-short c.args.op))

pub returns : goal.returns
returns c = let is = line-is c.args.op c.template_at-t.result.text.now c.values_of-values.result c.pattern_of.result c.template_at-t.ensures.items c.pattern_of.ensures c.values_of-values.ensures in
    c.fill_template.ensures ∙ is
