-- All tests hold.
use mathlib.Core.Bool.{Bool, ◌&&◌}
use native.Mathlib.Omega.{arith}
use Prim.Native.Nat.{◌%◌}
use lib.Dec.{leb, ltb, eqb}
use borrow.Author.Tests.{leb-true, ltb-true, eqb-true}
use Rattle.isa.proofs.Fields.{and_left, and_right}
use Rattle.stream.proofs.body.at_words.Goals as goal

pub returns : goal.returns
returns c all = let a = c.args in
    let first : Bool = leb c.words_place.result a.at in
    let second : Bool = ltb a.at c.flag_place.result in
    let third : Bool = eqb (a.at % 4) 0 in
    let fourth : Bool = leb 4 a.size in
    let three = and_left (first && second && third) fourth all in
    let two = and_left (first && second) third three in
    record {
      from = omega (arith, leb-true c.words_place.result a.at (and_left first second two), c.words_place.ensures);
      to = omega (arith, ltb-true a.at c.flag_place.result (and_right first second two), c.flag_place.ensures);
      whole = eqb-true (a.at % 4) 0 (and_right (first && second) third three);
      there = leb-true 4 a.size (and_right (first && second && third) fourth all);
    }
