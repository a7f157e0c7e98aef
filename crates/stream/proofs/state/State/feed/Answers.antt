-- The image and the contents are held together while the bytes are taken.
use mathlib.Core.Path.{◌≡◌, sym, ◌∙◌}
use borrow.Author.Rules.{rules}
use lib.ListN.{length}
use Rattle.stream.proofs.Called.{zeros, zeros-size, fronted-part, joined-size, joined_is, contents-back, feed-feeds}
use Rattle.stream.proofs.Rows.{image-part}
use Rattle.stream.proofs.state.State.feed.Goals as goal

pub copy_from_slice-requires : goal.copy_from_slice-requires
copy_from_slice-requires c =
    let image-size : length c.args.self.image ≡ 8192 = search rules in
    sym image-size

pub copy_from_slice-requires-2 : goal.copy_from_slice-requires-2
copy_from_slice-requires-2 c =
    let image-size : length c.args.self.image ≡ 8192 = search rules in
    let contents-size : length c.args.self.contents ≡ 12288 = search rules in
    fronted-part zeros zeros-size c.copy_from_slice.ensures.after image-size ∙ sym contents-size

pub feed-stepped-requires : goal.feed-stepped-requires
feed-stepped-requires c =
    let image-size : length c.args.self.image ≡ 8192 = search rules in
    let contents-size : length c.args.self.contents ≡ 12288 = search rules in
    joined-size zeros zeros-size c.copy_from_slice.ensures.after image-size c.copy_from_slice-2.ensures.after contents-size

pub slice_bounds-feed-end : goal.slice_bounds-feed-end
slice_bounds-feed-end c =
    let image-size : length c.args.self.image ≡ 8192 = search rules in
    let contents-size : length c.args.self.contents ≡ 12288 = search rules in
    sym (joined-size zeros zeros-size c.copy_from_slice.ensures.after image-size c.copy_from_slice-2.ensures.after contents-size)

pub slice_bounds-copy_from_slice-end-5 : goal.slice_bounds-copy_from_slice-end-5
slice_bounds-copy_from_slice-end-5 c =
    let image-size : length c.args.self.image ≡ 8192 = search rules in
    let contents-size : length c.args.self.contents ≡ 12288 = search rules in
    let fed-size : length c.feed-stepped.new.held ≡ 20480 = c.feed-stepped.auto.held ∙ joined-size zeros zeros-size c.copy_from_slice.ensures.after image-size c.copy_from_slice-2.ensures.after contents-size in
    sym (image-part c.feed-stepped.new.held fed-size)

pub copy_from_slice-requires-3 : goal.copy_from_slice-requires-3
copy_from_slice-requires-3 c =
    let image-size : length c.args.self.image ≡ 8192 = search rules in
    let contents-size : length c.args.self.contents ≡ 12288 = search rules in
    let fed-size : length c.feed-stepped.new.held ≡ 20480 = c.feed-stepped.auto.held ∙ joined-size zeros zeros-size c.copy_from_slice.ensures.after image-size c.copy_from_slice-2.ensures.after contents-size in
    image-size ∙ sym (image-part c.feed-stepped.new.held fed-size)

pub slice_bounds-copy_from_slice-end-6 : goal.slice_bounds-copy_from_slice-end-6
slice_bounds-copy_from_slice-end-6 c =
    let contents-size : length c.args.self.contents ≡ 12288 = search rules in
    sym contents-size

pub copy_from_slice-requires-4 : goal.copy_from_slice-requires-4
copy_from_slice-requires-4 c =
    let image-size : length c.args.self.image ≡ 8192 = search rules in
    let contents-size : length c.args.self.contents ≡ 12288 = search rules in
    let fed-size : length c.feed-stepped.new.held ≡ 20480 = c.feed-stepped.auto.held ∙ joined-size zeros zeros-size c.copy_from_slice.ensures.after image-size c.copy_from_slice-2.ensures.after contents-size in
    contents-size ∙ sym (contents-back c.feed-stepped.new.held fed-size)

pub returns : goal.returns
returns c =
    let image-size : length c.args.self.image ≡ 8192 = search rules in
    let contents-size : length c.args.self.contents ≡ 12288 = search rules in
    let fed-size : length c.feed-stepped.new.held ≡ 20480 = c.feed-stepped.auto.held ∙ joined-size zeros zeros-size c.copy_from_slice.ensures.after image-size c.copy_from_slice-2.ensures.after contents-size in
    feed-feeds c.args.self c.args.bytes.now _ _ _ c.feed-stepped.ensures
    (joined_is zeros zeros-size c.copy_from_slice.ensures.after image-size c.copy_from_slice-2.ensures.after contents-size)
    image-size fed-size _ _ c.copy_from_slice-3.ensures.after c.copy_from_slice-4.ensures.after
