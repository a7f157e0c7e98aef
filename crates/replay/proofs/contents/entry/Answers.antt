-- Each of the three numbers is there or cut short.
use mathlib.Core.Path.{◌≡◌, sym, ap, refl, ◌∙◌}
use native.Mathlib.Omega.{arith}
use Prim.Native.Nat.{◌+◌, ◌*◌}
use Rattle.std.specs.Prelude.{Some, None}
use Rattle.replay.specs.Extent.{body_end}
use Rattle.replay.specs.Read.{number_at}
use Rattle.replay.proofs.Extent.{entry-cut, entry_read}
use Rattle.replay.proofs.contents.entry.Goals as goal

pub returns-in_err-l : goal.returns-in_err-l
returns-in_err-l c = let a = c.args in
    let first = c.new-numbers.ensures.1 ∙ c.entry_place.ensures in
    let trace = c.new-numbers.ensures.0 in
    let none = ap (λ t. number_at t.now c.new-numbers.result.at) (sym trace) ∙ sym c.number.ensures.gives ∙ c.in_err-l.was in
    c.from_residual.ensures ∙ entry-cut a.trace.now a.k a.due _ _ _ first refl refl _ (omega arith) none

pub returns-in_err-w : goal.returns-in_err-w
returns-in_err-w c = let a = c.args in
    let first = c.new-numbers.ensures.1 ∙ c.entry_place.ensures in
    let second = (c.in_ok-l.ensures).moves.0 in
    let trace = c.number.ensures.moves.1 ∙ c.new-numbers.ensures.0 in
    let none = ap (λ t. number_at t.now c.number.new.self.at) (sym trace) ∙ sym c.number-2.ensures.gives ∙ c.in_err-w.was in
    c.from_residual-in_err-w.ensures ∙ entry-cut a.trace.now a.k a.due _ _ _ first second refl _ (omega arith) none

pub returns-in_err-start : goal.returns-in_err-start
returns-in_err-start c = let a = c.args in
    let first = c.new-numbers.ensures.1 ∙ c.entry_place.ensures in
    let second = (c.in_ok-l.ensures).moves.0 in
    let third = (c.in_ok-w.ensures).moves.0 in
    let trace = c.number-2.ensures.moves.1 ∙ c.number.ensures.moves.1 ∙ c.new-numbers.ensures.0 in
    let none = ap (λ t. number_at t.now c.number-2.new.self.at) (sym trace) ∙ sym c.number-3.ensures.gives ∙ c.in_err-start.was in
    c.from_residual-in_err-start.ensures ∙ entry-cut a.trace.now a.k a.due _ _ _ first second third _ (omega arith) none

pub returns : goal.returns
returns c = let a = c.args in
    let first = c.new-numbers.ensures.1 ∙ c.entry_place.ensures in
    let second = (c.in_ok-l.ensures).moves.0 in
    let third = (c.in_ok-w.ensures).moves.0 in
    let trace = c.new-numbers.ensures.0 in
    let again = c.number.ensures.moves.1 ∙ trace in
    let last = c.number-2.ensures.moves.1 ∙ again in
    c.body_end.ensures
    ∙ (λ t. body_end (c.wide.ensures t) (c.wide-2.ensures t) (c.wide-3.ensures t) a.due)
    ∙ entry_read a.trace.now a.k a.due _ _ _ first second third _ _ _
    (ap (λ t. number_at t.now c.new-numbers.result.at) (sym trace) ∙ sym c.number.ensures.gives ∙ c.in_ok-l.was)
    (ap (λ t. number_at t.now c.number.new.self.at) (sym again) ∙ sym c.number-2.ensures.gives ∙ c.in_ok-w.was)
    (ap (λ t. number_at t.now c.number-2.new.self.at) (sym last) ∙ sym c.number-3.ensures.gives ∙ c.in_ok-start.was)
