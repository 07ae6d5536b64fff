-- Moves of the plane: quarter turns keep the turn of three points, the mirror negates it; both keep distances.
--     Keeps, Flips, keeps-.., flips-..   such moves, one after the other
--     mem-map, of_map, inj, mem-rev, len-mem, empty   points of a moved list
--     hull-of-closed, hull-turned, hull-mirrored      the hull of the moved points
-- Assumes nothing.
use mathlib.Core.Path.{◌≡◌, refl, sym, ◌∙◌, ap, subst}
use mathlib.Core.Logic.{◌⊎◌, inl, inr}
use mathlib.Core.List.Memᴰ
use mathlib.Core.List.{List, [], ◌∷◌, ◌++◌, map, reverse, reverse-cons}
use Prim.Native.Nat.{ℕ, suc, ◌<◌}
use native.Mathlib.Omega.{arith}
use lib.ListN.{length}
use lib.IntN.{ℤ}
use Rattle.laws.specs.Lists.{NoDup}
use Rattle.whole.specs.Numbers.{neg}
use Rattle.whole.proofs.Sums.{neg-neg}
use Rattle.whole.proofs.Ring.{Expr, 𝕧, ◌:+◌, ◌:-◌, ◌:*◌, :n, solve}
use Rattle.whole.proofs.Ord.{nn≡}
use Rattle.whole.specs.Points.{Pt, cross, d2, Mem, Rot, pt_at}
use Rattle.whole.specs.IsHull.{dot}
use Rattle.whole.proofs.Turns.{X, Y, C, D, env, rot2, d2-0, d2-self}
use Rattle.whole.proofs.Edge.{Side, Edge, Ext, ext-of-edge, d2-dot}
use Rattle.whole.proofs.Run.{Run}
use Rattle.whole.proofs.Closed.{closed-unique, run-fan, fan-nodup}
use Rattle.whole.specs.Hull.{hull, start_of, walk}
use Rattle.whole.proofs.Hulls.{hull-run, start-mem, start-ext}
use Rattle.whole.specs.Moves.{quarter, mirror, Same}

pub record Keeps (m : Pt → Pt) : Type 0 where
  pub turn : (a b c : Pt) → cross (m a) (m b) (m c) ≡ cross a b c
  pub far : (a b c : Pt) → dot (m a) (m b) (m c) ≡ dot a b c

pub record Flips (m : Pt → Pt) : Type 0 where
  pub turn : (a b c : Pt) → cross (m a) (m b) (m c) ≡ neg (cross a b c)
  pub far : (a b c : Pt) → dot (m a) (m b) (m c) ≡ dot a b c

-- h is the variable 6; the moved point i is (6 − y, x)
pub keeps-quarter : (h : ℤ) → Keeps (quarter h)
unfolding quarter cross dot
keeps-quarter h = record {
  turn = λ a b c. solve (a.x ∷ a.y ∷ b.x ∷ b.y ∷ c.x ∷ c.y ∷ h ∷ [])
      (((H :- Y 1) :- (H :- Y 0)) :* (X 2 :- X 0) :- (X 1 :- X 0) :* ((H :- Y 2) :- (H :- Y 0))) (C 0 1 2) refl;
  far = λ a b c. solve (a.x ∷ a.y ∷ b.x ∷ b.y ∷ c.x ∷ c.y ∷ h ∷ [])
      (((H :- Y 1) :- (H :- Y 0)) :* ((H :- Y 2) :- (H :- Y 0)) :+ (X 1 :- X 0) :* (X 2 :- X 0)) (D 0 1 2) refl;
}
  where
    H : Expr
    H = 𝕧 6

pub flips-mirror : (w : ℤ) → Flips (mirror w)
unfolding mirror cross dot
flips-mirror h = record {
  turn = λ a b c. solve (a.x ∷ a.y ∷ b.x ∷ b.y ∷ c.x ∷ c.y ∷ h ∷ [])
      (((H :- X 1) :- (H :- X 0)) :* (Y 2 :- Y 0) :- (Y 1 :- Y 0) :* ((H :- X 2) :- (H :- X 0))) (:n (C 0 1 2)) refl;
  far = λ a b c. solve (a.x ∷ a.y ∷ b.x ∷ b.y ∷ c.x ∷ c.y ∷ h ∷ [])
      (((H :- X 1) :- (H :- X 0)) :* ((H :- X 2) :- (H :- X 0)) :+ (Y 1 :- Y 0) :* (Y 2 :- Y 0)) (D 0 1 2) refl;
}
  where
    H : Expr
    H = 𝕧 6

pub keeps-id : Keeps (λ p. p)
keeps-id = record { turn = λ a b c. refl; far = λ a b c. refl }

pub keeps-keeps : {m n : Pt → Pt} → Keeps m → Keeps n → Keeps (λ p. m (n p))
keeps-keeps {m} {n} k l =
    record { turn = λ a b c. k.turn (n a) (n b) (n c) ∙ l.turn a b c; far = λ a b c. k.far (n a) (n b) (n c) ∙ l.far a b c }

pub keeps-flips : {m n : Pt → Pt} → Keeps m → Flips n → Flips (λ p. m (n p))
keeps-flips {m} {n} k l =
    record { turn = λ a b c. k.turn (n a) (n b) (n c) ∙ l.turn a b c; far = λ a b c. k.far (n a) (n b) (n c) ∙ l.far a b c }

pub mem-map : (m : Pt → Pt) {a : Pt} {l : List Pt} → Mem a l → Mem (m a) (map m l)
mem-map m (Memᴰ.head e) = Memᴰ.head (ap m e)
mem-map m (Memᴰ.tail t) = Memᴰ.tail (mem-map m t)

pub of_map : (m : Pt → Pt) (l : List Pt) {b : Pt} → Mem b (map m l) → (a : Pt) × Mem a l × (b ≡ m a)
of_map m [] t = elim t [ ]
of_map m (a ∷ l) (Memᴰ.head e) = (a, Memᴰ.head refl, e)
of_map m (a ∷ l) (Memᴰ.tail t) = let r = of_map m l t in (r.0, Memᴰ.tail r.1, r.2)

module _ (m : Pt → Pt) (K : Keeps m) (P Q : List Pt) (same : Same (map m P) Q) where
  edge-keeps : (a b : Pt) → Edge P a b → Edge Q (m a) (m b)
  unfolding Edge Side
  edge-keeps a b h p t =
      let r = of_map m P ((same p).1 t) in
      subst (λ q. Side (m a) (m b) q) (sym r.2) (
        nn≡ (h r.0 r.1).0 (sym (K.turn a b r.0)),
        λ z. nn≡ ((h r.0 r.1).1 (sym (K.turn a b r.0) ∙ z)) (ap neg (sym (K.far r.0 a b))),
      )

  run-keeps : (a : Pt) (vs : List Pt) (z : Pt) → Run P a vs z → Run Q (m a) (map m vs) (m z)
  run-keeps a [] z r = edge-keeps a z r
  run-keeps a (b ∷ bs) z r = ((same (m b)).0 (mem-map m r.0), edge-keeps a b r.1, run-keeps b bs z r.2)

snoc : (P : List Pt) (a b z : Pt) (vs : List Pt) → Run P a vs b → Mem b P → Edge P b z → Run P a (vs ++ b ∷ []) z
snoc P a b z [] r mb e = (mb, r, e)
snoc P a b z (c ∷ cs) r mb e = (r.0, r.1, snoc P c b z cs r.2 mb e)

pub dot-sym : (c a b : Pt) → dot c a b ≡ dot c b a
unfolding dot
dot-sym c a b = solve (env (c ∷ a ∷ b ∷ [])) (D 0 1 2) (D 0 2 1) refl

module _ (m : Pt → Pt) (K : Flips m) (P Q : List Pt) (same : Same (map m P) Q) where
  edge-flips : (a b : Pt) → Edge P a b → Edge Q (m b) (m a)
  unfolding Edge Side
  edge-flips a b h p t =
      let r = of_map m P ((same p).1 t) in
      let e : cross (m b) (m a) (m r.0) ≡ cross a b r.0 = rot2 (m a) (m b) (m r.0) ∙ ap neg (K.turn a b r.0) ∙ neg-neg _ in
      subst (λ q. Side (m b) (m a) q) (sym r.2)
      (nn≡ (h r.0 r.1).0 (sym e), λ z. nn≡ ((h r.0 r.1).1 (sym e ∙ z)) (ap neg (sym (K.far r.0 a b) ∙ dot-sym _ _ _)))

  -- backwards, from the last to the first
  run-flips : (a : Pt) (vs : List Pt) (z : Pt) → Run P a vs z → Run Q (m z) (reverse (map m vs)) (m a)
  run-flips a [] z r = edge-flips a z r
  run-flips a (b ∷ bs) z r =
      rw reverse-cons (snoc Q (m z) (m b) (m a) (reverse (map m bs)) (run-flips b bs z r.2) ((same (m b)).0 (mem-map m r.0))
      (edge-flips a b r.1))

-- ---- the hull of the moved points
run-ext : (P : List Pt) (a : Pt) (vs : List Pt) (z : Pt) → Run P a vs z → Ext P z
run-ext P a [] z r = ext-of-edge P a z r
run-ext P a (b ∷ bs) z r = run-ext P b bs z r.2

pub closed-nodup : (P : List Pt) (a : Pt) (vs : List Pt) → Mem a P → Run P a vs a → (¬ Mem a vs) → NoDup (a ∷ vs)
closed-nodup P a [] ma r n = (n, tt)
closed-nodup P a (b ∷ bs) ma r n = (
  n,
  fan-nodup a (b ∷ bs)
      (run-fan P a ma (run-ext P b bs a r.2) b bs a r.2 r.0 (λ q. n (Memᴰ.head q)) (λ t. n (Memᴰ.tail t))),
)

pub inj : (m : Pt → Pt) → ((a b c : Pt) → dot (m a) (m b) (m c) ≡ dot a b c) → (a b : Pt) → m a ≡ m b → a ≡ b
inj m far a b e = d2-0 a b (d2-dot a b ∙ sym (far a b b) ∙ sym (d2-dot (m a) (m b)) ∙ ap (d2 (m a)) (sym e) ∙ d2-self (m a))

not-map : (m : Pt → Pt) → ((a b : Pt) → m a ≡ m b → a ≡ b) → (a : Pt) (l : List Pt) → (¬ Mem a l) → ¬ Mem (m a) (map m l)
not-map m i a l n t = let r = of_map m l t in n (Memᴰ.cast (i a r.0 r.2) r.1)

pub mem-rev : {a : Pt} (l : List Pt) → Mem a (reverse l) → Mem a l
mem-rev [] t = t
mem-rev {a} (b ∷ l) t = go (Memᴰ.append_cases (reverse l) (subst (Mem a) (reverse-cons b l) t)) (λ s. mem-rev l s)
  where
    go : Mem a (reverse l) ⊎ Mem a (b ∷ []) → (Mem a (reverse l) → Mem a l) → Mem a (b ∷ l)
    go (inl s) rec = Memᴰ.tail (rec s)
    go (inr (Memᴰ.head e)) rec = Memᴰ.head e
    go (inr (Memᴰ.tail s)) rec = elim s [ ]

pub len-mem : (Q : List Pt) (q : Pt) → Mem q Q → 0 < length Q
len-mem Q q (Memᴰ.head {xs = xs} e) = suc-pos (length xs)
  where
    suc-pos : (n : ℕ) → 0 < suc n
    suc-pos n = omega arith
len-mem Q q (Memᴰ.tail {xs = xs} t) = suc-pos (length xs)
  where
    suc-pos : (n : ℕ) → 0 < suc n
    suc-pos n = omega arith

pub empty : (Q : List Pt) → Same [] Q → hull Q ≡ []
unfolding hull walk
empty [] h = refl
empty (q ∷ Q) h = elim ((h q).1 (Memᴰ.head refl)) [ ]

-- any closed run of Q is the hull of Q from another start
pub hull-of-closed : (Q : List Pt) (a : Pt) (ws : List Pt) → Mem a Q → Run Q a ws a → (¬ Mem a ws) → Rot (a ∷ ws) (hull Q)
hull-of-closed Q a ws ma r n =
    let some : 0 < length Q = len-mem Q a ma in
    let h = hull-run Q some in
    subst (λ l. Rot (a ∷ ws) l) (sym h.1)
    (closed-unique Q (pt_at Q (start_of Q)) a h.0 ws (start-mem Q some) (start-ext Q some) h.2 h.3 ma r
    (closed-nodup Q a ws ma r n))

rot-nil : Rot [] []
rot-nil = ([], [], refl, refl)

pub hull-turned : (m : Pt → Pt) → Keeps m → (P Q : List Pt) → Same (map m P) Q → Rot (map m (hull P)) (hull Q)
hull-turned m K [] Q same = rw (empty [] (λ p. ((λ t. t), (λ t. t))), empty Q same) rot-nil
hull-turned m K (p ∷ P) Q same =
    let some : 0 < length (p ∷ P) = len-mem (p ∷ P) p (Memᴰ.head refl) in
    let h = hull-run (p ∷ P) some in
    let s : Pt = pt_at (p ∷ P) (start_of (p ∷ P)) in
    subst (λ l. Rot (map m l) (hull Q)) (sym h.1)
    (hull-of-closed Q (m s) (map m h.0) ((same (m s)).0 (mem-map m (start-mem (p ∷ P) some)))
    (run-keeps m K (p ∷ P) Q same s h.0 s h.2) (not-map m (inj m K.far) s h.0 h.3))

-- a closed run from its second vertex on
shift : (Q : List Pt) (a : Pt) (ws : List Pt) → Mem a Q → Run Q a ws a → (¬ Mem a ws) → Rot (ws ++ a ∷ []) (hull Q)
shift Q a [] ma r n = hull-of-closed Q a [] ma r n
shift Q a (c ∷ cs) ma r n =
    hull-of-closed Q c (cs ++ a ∷ []) r.0 (snoc Q c a c cs r.2 ma r.1) (λ t. go (Memᴰ.append_cases cs t))
  where
    d : NoDup (a ∷ c ∷ cs)
    d = closed-nodup Q a (c ∷ cs) ma r n

    go : Mem c cs ⊎ Mem c (a ∷ []) → ⊥
    go (inl t) = d.1.0 t
    go (inr (Memᴰ.head e)) = n (Memᴰ.head (sym e))
    go (inr (Memᴰ.tail t)) = elim t [ ]

pub hull-mirrored : (m : Pt → Pt) → Flips m → (P Q : List Pt) → Same (map m P) Q → Rot (reverse (map m (hull P))) (hull Q)
hull-mirrored m K [] Q same = rw (empty [] (λ p. ((λ t. t), (λ t. t))), empty Q same) rot-nil
hull-mirrored m K (p ∷ P) Q same =
    let some : 0 < length (p ∷ P) = len-mem (p ∷ P) p (Memᴰ.head refl) in
    let h = hull-run (p ∷ P) some in
    let s : Pt = pt_at (p ∷ P) (start_of (p ∷ P)) in
    subst (λ l. Rot (reverse (map m l)) (hull Q)) (sym h.1)
    (rw (reverse-cons (m s) (map m h.0))
    (shift Q (m s) (reverse (map m h.0)) ((same (m s)).0 (mem-map m (start-mem (p ∷ P) some)))
    (run-flips m K (p ∷ P) Q same s h.0 s h.2) (λ t. not-map m (inj m K.far) s h.0 h.3 (mem-rev (map m h.0) t))))
