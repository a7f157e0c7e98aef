-- Each arm is the pattern of its number.
use mathlib.Core.Path.{◌≡◌, refl}
use native.Mathlib.Omega.{arith}
use lib.Dec.{lit<}
use Rattle.letters.proofs.Items.{past}
use Rattle.letters.proofs.Arms.{arm}
use Rattle.letters.proofs.templates.template_at.Goals as goal

pub returns-in-0 : goal.returns-in-0
returns-in-0 c = arm c.in-0.is c.made.ensures refl (lit< tt) refl

pub returns-in-1 : goal.returns-in-1
returns-in-1 c = arm c.in-1.is c.made-in-1.ensures refl (lit< tt) refl

pub returns-in-2 : goal.returns-in-2
returns-in-2 c = arm c.in-2.is c.made-in-2.ensures refl (lit< tt) refl

pub returns-in-3 : goal.returns-in-3
returns-in-3 c = arm c.in-3.is c.made-in-3.ensures refl (lit< tt) refl

pub returns-in-4 : goal.returns-in-4
returns-in-4 c = arm c.in-4.is c.made-in-4.ensures refl (lit< tt) refl

pub returns-in-5 : goal.returns-in-5
returns-in-5 c = arm c.in-5.is c.made-in-5.ensures refl (lit< tt) refl

pub returns-in-6 : goal.returns-in-6
returns-in-6 c = arm c.in-6.is c.made-in-6.ensures refl (lit< tt) refl

pub returns-in-7 : goal.returns-in-7
returns-in-7 c = arm c.in-7.is c.made-in-7.ensures refl (lit< tt) refl

pub returns-in-8 : goal.returns-in-8
returns-in-8 c = arm c.in-8.is c.made-in-8.ensures refl (lit< tt) refl

pub returns-in-9 : goal.returns-in-9
returns-in-9 c = arm c.in-9.is c.made-in-9.ensures refl (lit< tt) refl

pub returns-in-10 : goal.returns-in-10
returns-in-10 c = arm c.in-10.is c.made-in-10.ensures refl (lit< tt) refl

pub returns-in-11 : goal.returns-in-11
returns-in-11 c = arm c.in-11.is c.made-in-11.ensures refl (lit< tt) refl

pub returns-in-12 : goal.returns-in-12
returns-in-12 c = arm c.in-12.is c.made-in-12.ensures refl (lit< tt) refl

pub returns-in-13 : goal.returns-in-13
returns-in-13 c = arm c.in-13.is c.made-in-13.ensures refl (lit< tt) refl

pub returns-in-14 : goal.returns-in-14
returns-in-14 c = arm c.in-14.is c.made-in-14.ensures refl (lit< tt) refl

pub returns-in-15 : goal.returns-in-15
returns-in-15 c = arm c.in-15.is c.made-in-15.ensures refl (lit< tt) refl

pub returns-in-16 : goal.returns-in-16
returns-in-16 c = arm c.in-16.is c.made-in-16.ensures refl (lit< tt) refl

pub returns-in_default : goal.returns-in_default
returns-in_default c = let e : c.args.pattern ≡ 17 = omega (arith, past 17 c.args.pattern c.in_default.in_default-own.rest, c.requires) in
    arm e c.made-in_default.ensures refl (lit< tt) refl
