-- Closed runs: they hold every extreme point, and are unique up to where they start; their vertices turn clockwise.
--     run-mem, high, complete        whose points they are, and that no extreme point is missing
--     run-unique, closed-unique      one closed run from a start
--     run-fan, fan-nodup, run-clockwise   its vertices turn clockwise, none twice
-- Assumes nothing.
use mathlib.Core.Path.{◌≡◌, refl, sym, ◌∙◌, ap, subst}
use mathlib.Core.Logic.{◌⊎◌, inl, inr, ◌≢◌}
use mathlib.Core.List.Memᴰ
use mathlib.Core.List.{
  List,
  [],
  ◌∷◌,
  ◌++◌,
  append-nil,
}
use Rattle.laws.specs.Lists.{NoDup}
use Rattle.whole.specs.Numbers.{neg, NN, PP}
use Rattle.whole.proofs.Sums.{neg-neg}
use Rattle.whole.proofs.Ord.{pn, p0, nn≡, pp≡, z0, pnn, cmp}
use Rattle.whole.specs.Points.{Fan, Clockwise, Pt, cross, Mem, Rot}
use Rattle.whole.proofs.Turns.{lin, cyc, rot2, cross-same, cross-l, At, lin-self}
use Rattle.whole.proofs.Edge.{Side, Edge, Ext, pt-dec, ext-of-edge, side-unique, not-between, strict, not-inside, fan}
use Rattle.whole.proofs.Run.{Run}

pub run-mem : (P : List Pt) (a : Pt) (vs : List Pt) (z : Pt) → Run P a vs z → (q : Pt) → Mem q vs → Mem q P
run-mem P a [] z r q m = elim m [ ]
run-mem P a (b ∷ bs) z r q (Memᴰ.head e) = Memᴰ.cast e r.0
run-mem P a (b ∷ bs) z r q (Memᴰ.tail t) = run-mem P b bs z r.2 q t

-- what an extreme point says of another point
pub high : (P : List Pt) (e : Pt) (x : Ext P e) (q : Pt) → Mem q P → q ≢ e → unfold Ext in PP (lin x.0 e q)
unfolding Ext
high P e x q m n = up (x.1 q m)
  where
    up : At x.0 e q → PP (lin x.0 e q)
    up (inl e) = absurd (n e)
    up (inr p) = p

-- ---- a closed run holds every extreme point
module _ (P : List Pt) (a e : Pt) (ma : Mem a P) (me : Mem e P) (x : Ext P e) (ne : e ≢ a) where
  scan : (b : Pt) (bs : List Pt) → Mem b P → NN (cross a b e) → Run P b bs a → Mem e (b ∷ bs)
  unfolding Ext Edge Side
  scan b [] mb h r = go (pt-dec e b)
    where
      go : Dec (e ≡ b) → Mem e (b ∷ [])
      go (yes q) = Memᴰ.head q
      go (no n) = absurd (pnn (strict x.0 e b a (high P e x b mb (λ q. n (sym q))) (high P e x a ma (λ q. ne (sym q))) (r e me))
          (nn≡ h (sym (neg-neg _) ∙ ap neg (sym (rot2 a b e)))))
  scan b (c ∷ bs) mb h r = go (pt-dec e b) (cmp (cross a c e)) (λ h'. scan c bs r.0 h' r.2)
    where
      low : (q : Pt) → Mem q P → NN (lin x.0 e q)
      low q m = up (x.1 q m)
        where
          up : At x.0 e q → NN (lin x.0 e q)
          up (inl e') = nn≡ z0 (sym (ap (lin x.0 e) e' ∙ lin-self x.0 e))
          up (inr p) = pn p

      go : Dec (e ≡ b) → NN (cross a c e) ⊎ PP (neg (cross a c e)) → (NN (cross a c e) → Mem e (c ∷ bs)) → Mem e (b ∷ c ∷ bs)
      go (yes q) d rec = Memᴰ.head q
      go (no n) (inl h') rec = Memᴰ.tail (rec h')
      go (no n) (inr h') rec =
          absurd (not-inside x.0 e a b c (low a ma) (high P e x b mb (λ q. n (sym q))) (low c r.0) (r.1 e me).0
          (pp≡ h' (sym (rot2 a c e))) h)

  around : (vs : List Pt) → Run P a vs a → Mem e vs
  unfolding Ext Edge Side
  around [] r = let ha =
      high P e x a ma (λ q. ne (sym q)) in absurd (not-between x.0 e a a ha ha (cross-l a e) ((r e me).1 (cross-l a e)))
  around (b ∷ bs) r = scan b bs r.0 (r.1 e me).0 r.2

pub complete : (P : List Pt) (a e : Pt) (vs : List Pt) → Mem a P → Mem e P → Ext P e → Run P a vs a → Mem e (a ∷ vs)
complete P a e vs ma me x r = go (pt-dec e a)
  where
    go : Dec (e ≡ a) → Mem e (a ∷ vs)
    go (yes q) = Memᴰ.head q
    go (no n) = Memᴰ.tail (around P a e ma me x n vs r)

-- ---- a run from one point is determined by where it ends
pub run-unique : (P : List Pt) (z : Pt) → Mem z P → (a : Pt) (vs ws : List Pt) → Run P a vs z → Run P a ws z → (¬ Mem z vs) → (¬ Mem z ws)
    → vs ≡ ws
unfolding Edge
run-unique P z mz a [] [] r t n m = refl
run-unique P z mz a [] (b ∷ bs) r t n m = absurd (m (Memᴰ.head (side-unique a z b (r b t.0) (t.1 z mz))))
run-unique P z mz a (b ∷ bs) [] r t n m = absurd (n (Memᴰ.head (side-unique a z b (t b r.0) (r.1 z mz))))
run-unique P z mz a (b ∷ bs) (c ∷ cs) r t n m =
    let e : b ≡ c = side-unique a b c (r.1 c t.0) (t.1 b r.0) in
    let ih : bs ≡ cs = run-unique P z mz b bs cs r.2 (subst (λ q. Run P q cs z) (sym e) t.2) (λ q. n (Memᴰ.tail q))
    (λ q. m (Memᴰ.tail q)) in
    cc

-- ---- to take a run apart, and put two together
join : (P : List Pt) (a b z : Pt) (vs ws : List Pt) → Mem b P → Run P a vs b → Run P b ws z → Run P a (vs ++ b ∷ ws) z
join P a b z [] ws mb r t = (mb, r, t)
join P a b z (c ∷ cs) ws mb r t = (r.0, r.1, join P c b z cs ws mb r.2 t)

cut : (P : List Pt) (a e z : Pt) (vs : List Pt) → Run P a vs z → Mem e vs
    → (xs : List Pt) × (ys : List Pt) × (vs ≡ xs ++ e ∷ ys) × Run P a xs e × Run P e ys z
cut P a e z [] r m = elim m [ ]
cut P a e z (b ∷ bs) r (Memᴰ.head q) =
    ([], bs, ap (λ t. t ∷ bs) (sym q), subst (Edge P a) (sym q) r.1, subst (λ t. Run P t bs z) (sym q) r.2)
cut P a e z (b ∷ bs) r (Memᴰ.tail t) = let c =
    cut P b e z bs r.2 t in (b ∷ c.0, c.1, ap (λ l. b ∷ l) c.2, (r.0, r.1, c.3), c.4)

nd-append : (xs : List Pt) (e : Pt) (ys : List Pt) → NoDup (xs ++ e ∷ ys) → ¬ Mem e (ys ++ xs)
nd-append xs e ys d m = go (Memᴰ.append_cases ys m)
  where
    left : (xs : List Pt) → NoDup (xs ++ e ∷ ys) → Mem e xs → ⊥
    left [] d m = elim m [ ]
    left (b ∷ bs) d (Memᴰ.head q) = d.0 (Memᴰ.append_right bs (Memᴰ.head (sym q)))
    left (b ∷ bs) d (Memᴰ.tail t) = left bs d.1 t

    right : (xs : List Pt) → NoDup (xs ++ e ∷ ys) → Mem e ys → ⊥
    right [] d m = d.0 m
    right (b ∷ bs) d m = right bs d.1 m

    go : Mem e ys ⊎ Mem e xs → ⊥
    go (inl m) = right xs d m
    go (inr m) = left xs d m

-- two closed runs over the same points list the same vertices, from another start
pub closed-unique : (P : List Pt) (s a : Pt) (vs ws : List Pt) → Mem s P → Ext P s → Run P s vs s → (¬ Mem s vs) → Mem a P → Run P a ws a
    → NoDup (a ∷ ws) → Rot (a ∷ ws) (s ∷ vs)
closed-unique P s a vs ws ms x r n ma t d = go (complete P a s ws ma ms x t)
  where
    go : Mem s (a ∷ ws) → Rot (a ∷ ws) (s ∷ vs)
    go (Memᴰ.head q) = (
      [],
      a ∷ ws,
      refl,
      ap (λ l. s ∷ l)
          (run-unique P s ms s vs ws r (subst (λ t. Run P t ws t) (sym q) t) n (λ m. d.0 (Memᴰ.cast (sym q) m))) ∙ ap (λ t. t ∷ ws) q
          ∙ sym (append-nil (a ∷ ws)),
    )
    go (Memᴰ.tail m) =
        let c = cut P a s a ws t m in
        let d' : NoDup (a ∷ (c.0 ++ s ∷ c.1)) = subst (λ l. NoDup (a ∷ l)) c.2 d in (
          a ∷ c.0,
          s ∷ c.1,
          ap (λ l. a ∷ l) c.2,
          ap (λ l. s ∷ l) (run-unique P s ms s vs (c.1 ++ a ∷ c.0) r (join P s a s c.1 c.0 ma c.4 c.3) n
              (nd-append (a ∷ c.0) s c.1 d')),
        )

-- ---- the vertices of a run turn clockwise about any extreme point that is none of them
pub run-fan : (P : List Pt) (e : Pt) → Mem e P → Ext P e → (a : Pt) (vs : List Pt) (z : Pt) → Run P a vs z → Mem a P → e ≢ a → (¬ Mem e vs)
    → Fan e (a ∷ vs)
unfolding Ext Edge
run-fan P e me x a [] z r ma ne n = ((λ b m. elim m [ ]), tt)
run-fan P e me x a (b ∷ bs) z r ma ne n =
    let ih : Fan e (b ∷ bs) = run-fan P e me x b bs z r.2 r.0 (λ q. n (Memᴰ.head q)) (λ m. n (Memᴰ.tail m)) in
    (λ c m. first ih.0 c m, ih)
  where
    ha : PP (lin x.0 e a)
    ha = high P e x a ma (λ q. ne (sym q))

    hb : PP (lin x.0 e b)
    hb = high P e x b r.0 (λ q. n (Memᴰ.head (sym q)))

    turn : PP (cross e a b)
    turn = pp≡ (strict x.0 e a b ha hb (r.1 e me)) (sym (cyc e a b))

    first : ((c : Pt) → Mem c bs → PP (cross e b c)) → (c : Pt) → Mem c (b ∷ bs) → PP (cross e a c)
    first ih c (Memᴰ.head q) = subst (λ t. PP (cross e a t)) (sym q) turn
    first ih c (Memᴰ.tail t) =
        fan x.0 e a b c ha hb (high P e x c (run-mem P b bs z r.2 c t) (λ q. n (Memᴰ.tail (Memᴰ.cast (sym q) t)))) turn (ih c t)

pub fan-nodup : (e : Pt) (vs : List Pt) → Fan e vs → NoDup vs
fan-nodup e [] f = tt
fan-nodup e (a ∷ vs) f = ((λ m. p0 (f.0 a m) (cross-same e a)), fan-nodup e vs f.1)

pub run-clockwise : (P : List Pt) (a : Pt) (vs : List Pt) (z : Pt) → Mem a P → Ext P a → Run P a vs z → NoDup (a ∷ vs) → Clockwise (a ∷ vs)
run-clockwise P a [] z ma x r d = (tt, tt)
run-clockwise P a (b ∷ bs) z ma x r d = (
  run-fan P a ma x b bs z r.2 r.0 (λ q. d.0 (Memᴰ.head q)) (λ m. d.0 (Memᴰ.tail m)),
  run-clockwise P b bs z r.0 (ext-of-edge P a b r.1) r.2 d.1,
)
