use mathlib.Core.Path.{sym, ◌∙◌}
use borrow.Author.Tests.{leb-true, ltb-true, ltb-false}
use Rattle.listing.proofs.Parts.{call-room, call-over, call-last, call-more}
use Rattle.listing.proofs.list_part.Goals as goal

pub returns-then-not-has_room : goal.returns-then-not-has_room
returns-then-not-has_room c = call-room c.args.done c.args.bytes.now c.args.last c.args.out.now
    (sym c.has_room.ensures ∙ c.if-not-has_room.true)

pub list_over-requires : goal.list_over-requires
list_over-requires c = record { limit_bound = ltb-true _ _ (sym c.is_over.ensures ∙ c.if-is_over.true); bytes_in_bounds = leb-true _ _ (sym c.has_room.ensures ∙ c.if-not-has_room.false) }

pub returns-then-is_over : goal.returns-then-is_over
returns-then-is_over c = c.list_over.ensures
    ∙ call-over c.args.done c.args.bytes.now c.args.last c.args.out.now
    (sym c.has_room.ensures ∙ c.if-not-has_room.false) (sym c.is_over.ensures ∙ c.if-is_over.true)

pub list_last-requires : goal.list_last-requires
list_last-requires c = record { bytes_bound = ltb-false _ _ (sym c.is_over.ensures ∙ c.if-is_over.false); bytes_in_bounds = leb-true _ _ (sym c.has_room.ensures ∙ c.if-not-has_room.false) }

pub returns-then-last : goal.returns-then-last
returns-then-last c = c.list_last.ensures
    ∙ call-last c.args.done c.args.bytes.now c.args.last c.args.out.now
    (sym c.has_room.ensures ∙ c.if-not-has_room.false) (sym c.is_over.ensures ∙ c.if-is_over.false) c.if-last.true

pub list_more-requires : goal.list_more-requires
list_more-requires c = record { bytes_bound = ltb-false _ _ (sym c.is_over.ensures ∙ c.if-is_over.false); bytes_in_bounds = leb-true _ _ (sym c.has_room.ensures ∙ c.if-not-has_room.false) }

pub returns : goal.returns
returns c = c.list_more.ensures
    ∙ call-more c.args.done c.args.bytes.now c.args.last c.args.out.now
    (sym c.has_room.ensures ∙ c.if-not-has_room.false) (sym c.is_over.ensures ∙ c.if-is_over.false) c.if-last.false
