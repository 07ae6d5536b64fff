-- `lcr_core::places::depth` meets its contract. Assumes nothing.
use native.Mathlib.Omega.{arith}
use Rattle.lcr_core.proofs.Signed.{cast_ok, nat-of, neg-fits, neg-read, neg_small, pos-read, pos-small, pos-depth}
use Rattle.lcr_core.proofs.places.depth.Goals as goal

pub overflow_sub-result : goal.overflow_sub-result
overflow_sub-result c = neg-fits c.args.side c.args.c c.requires.in_range c.if-c-lt0.true

pub overflow_cast-result : goal.overflow_cast-result
overflow_cast-result c =
    let a = c.args in
    cast_ok _ _ (neg-read a.side a.c c.requires.in_range c.if-c-lt0.true)
    (let z = neg_small a.side a.c c.requires.in_range c.if-c-lt0.true in omega arith)

pub returns-then-c-lt0 : goal.returns-then-c-lt0
returns-then-c-lt0 c = nat-of _ _ (neg-read c.args.side c.args.c c.requires.in_range c.if-c-lt0.true)

pub overflow_cast-n : goal.overflow_cast-n
overflow_cast-n c =
    let a = c.args in
    cast_ok _ _ (pos-read a.side a.c c.requires.in_range c.if-c-lt0.false)
    (let z = pos-small a.side a.c c.requires.in_range c.if-c-lt0.false in omega arith)

pub returns-then-n-side : goal.returns-then-n-side
returns-then-n-side c =
    let a = c.args in
    let e = pos-depth a.side a.c c.requires.in_range c.if-c-lt0.false in
    omega arith

pub overflow_add-result : goal.overflow_add-result
overflow_add-result c =
    let a = c.args in
    let e = nat-of _ _ (pos-read a.side a.c c.requires.in_range c.if-c-lt0.false) in
    let z = pos-small a.side a.c c.requires.in_range c.if-c-lt0.false in
    omega arith

pub returns : goal.returns
returns c =
    let a = c.args in
    let e = pos-depth a.side a.c c.requires.in_range c.if-c-lt0.false in
    omega arith
