-- Runs along edges: the walk's list is one.
--     pigeon                         more places than points: one comes twice
--     same_true, same_false, same_refl   the test for equal points
--     back_start                     the walk comes back to its start
-- Assumes nothing.
use mathlib.Core.Path.{◌≡◌, refl, sym, ◌∙◌, ap, subst}
use mathlib.Core.Logic.{◌⊎◌, inl, inr, ◌≢◌}
use mathlib.Core.List.Memᴰ
use mathlib.Core.List.{List, [], ◌∷◌}
use mathlib.Core.Bool.{Bool, true, false, ◌&&◌}
use Prim.Native.Nat.{ℕ, zero, suc, ◌+◌, ◌≤◌}
use native.Mathlib.Omega.{arith}
use lib.ListN.{length}
use lib.IntN.{ℤ, pos, negsuc}
use Rattle.laws.specs.Lists.{NoDup}
use Rattle.whole.specs.Hull.{is_zero, same_pt, walk}
use Rattle.whole.specs.Numbers.{◌⊕◌, neg, 𝟘, PP}
use Rattle.whole.proofs.Sums.{⊕-neg}
use Rattle.whole.proofs.Ord.{p0, pp≡, sub0}
use Rattle.whole.specs.Points.{Pt, cross, Mem}
use Rattle.whole.proofs.Turns.{pt≡, lin, cyc, cross-same, At}
use Rattle.whole.proofs.Edge.{Edge, Ext, pt-dec, ext-of-edge, strict, fan}

-- from a along the vertices to z, each step an edge of P
abbrev pub Run : List Pt → Pt → List Pt → Pt → Type 0
Run P a [] z = Edge P a z
Run P a (b ∷ bs) z = Mem b P × Edge P a b × Run P b bs z

-- ---- the pigeonhole
rem : {a : Pt} {ys : List Pt} → Mem a ys → (zs : List Pt) × (length ys ≡ suc (length zs)) × ((q : Pt) → Mem q ys → q ≢ a → Mem q zs)
rem {a} (Memᴰ.head {x = b} {xs = ys} e) = (ys, refl, λ q m ne. go q m ne)
  where
    go : (q : Pt) → Mem q (b ∷ ys) → q ≢ a → Mem q ys
    go q (Memᴰ.head e') ne = absurd (ne (e' ∙ sym e))
    go q (Memᴰ.tail t) ne = t
rem {a} (Memᴰ.tail {x = b} {xs = ys} m) = let r = rem m in (b ∷ r.0, ap suc r.1, λ q m' ne. go r.0 r.2 q m' ne)
  where
    go : (zs : List Pt) → ((q : Pt) → Mem q ys → q ≢ a → Mem q zs) → (q : Pt) → Mem q (b ∷ ys) → q ≢ a → Mem q (b ∷ zs)
    go zs h q (Memᴰ.head e') ne = Memᴰ.head e'
    go zs h q (Memᴰ.tail t) ne = Memᴰ.tail (h q t ne)

pub pigeon : (xs ys : List Pt) → NoDup xs → ((q : Pt) → Mem q xs → Mem q ys) → length xs ≤ length ys
pigeon [] ys d h = omega arith
pigeon (a ∷ xs) ys d h =
    let r = rem (h a (Memᴰ.head refl)) in
    let ih : length xs ≤ length r.0 =
    pigeon xs r.0 d.1 (λ q m. r.2 q (h q (Memᴰ.tail m)) (λ e. d.0 (mathlib.Core.List.Memᴰ.cast (sym e) m))) in
    omega (arith, r.1)

zero-true : (z : ℤ) → is_zero z ≡ true → z ≡ 𝟘
unfolding 𝟘
zero-true (pos zero) h = refl
zero-true (pos (suc n)) h = absurd (mathlib.Core.Bool.false≢true h)
zero-true (negsuc n) h = absurd (mathlib.Core.Bool.false≢true h)

zero_of : (z : ℤ) → z ≡ 𝟘 → is_zero z ≡ true
unfolding 𝟘
zero_of z e = ap is_zero e

and-true : (a b : Bool) → a && b ≡ true → (a ≡ true) × (b ≡ true)
and-true true b h = (refl, h)
and-true false b h = absurd (mathlib.Core.Bool.false≢true h)

pub same_true : (a b : Pt) → same_pt a b ≡ true → a ≡ b
unfolding same_pt
same_true a b h = let r = and-true _ _ h in pt≡ a b (sub0 _ _ (zero-true _ r.0)) (sub0 _ _ (zero-true _ r.1))

pub same_refl : (a : Pt) → same_pt a a ≡ true
unfolding same_pt
same_refl a = ap (λ t. t && is_zero (a.y ⊕ neg a.y)) (zero_of _ (⊕-neg a.x)) ∙ zero_of _ (⊕-neg a.y)

pub same_false : (a b : Pt) → same_pt a b ≡ false → a ≢ b
same_false a b h e = mathlib.Core.Bool.true≢false (sym (same_refl a) ∙ ap (same_pt a) e ∙ h)

module _ {S : Type 0} (pt : S → Pt) (nx : S → S) where
  module _ (P : List Pt) (ok : (c : S) → Mem (pt c) P → Ext P (pt c) → Mem (pt (nx c)) P × Edge P (pt c) (pt (nx c))) (s : Pt)
      (hs : Mem s P) (es : Ext P s) where
    -- the list from c on is one of edges back to s, and s is not in it again
    abbrev Back : ℕ → S → Type 0
    Back n c = (vs : List Pt) × (walk pt nx s n c ≡ pt c ∷ vs) × Run P (pt c) vs s × (¬ Mem s vs)

    back : (n : ℕ) (c : S) (seen : List Pt) → NoDup seen → ((q : Pt) → Mem q seen → Mem q P) → Mem (pt c) P → Ext P (pt c)
        → ((q : Pt) → Mem q seen → (q ≡ s) ⊎ PP (cross s q (pt c))) → pt c ≢ s → length P ≤ length seen + n → Back n c
    unfolding walk Edge Ext
    back zero c seen nd sub mc ec fn ne le = absurd (full (pigeon (pt c ∷ seen) P (fresh, nd) sub'))
      where
        out : (pt c ≡ s) ⊎ PP (cross s (pt c) (pt c)) → ⊥
        out (inl e) = ne e
        out (inr p) = p0 p (cross-same s (pt c))

        fresh : Mem (pt c) seen → ⊥
        fresh m = out (fn (pt c) m)

        sub' : (q : Pt) → Mem q (pt c ∷ seen) → Mem q P
        sub' q (Memᴰ.head e) = mathlib.Core.List.Memᴰ.cast e mc
        sub' q (Memᴰ.tail t) = sub q t

        full : suc (length seen) ≤ length P → ⊥
        full h = omega arith
    back (suc k) c seen nd sub mc ec fn ne le =
        go (same_pt (pt (nx c)) s) refl (λ ne'. back k (nx c) (pt c ∷ seen) (fresh, nd) sub' mn en (fn' ne') ne' le')
      where
        r : Mem (pt (nx c)) P × Edge P (pt c) (pt (nx c))
        r = ok c mc ec

        mn : Mem (pt (nx c)) P
        mn = r.0

        en : Ext P (pt (nx c))
        en = ext-of-edge P (pt c) (pt (nx c)) r.1

        out : (pt c ≡ s) ⊎ PP (cross s (pt c) (pt c)) → ⊥
        out (inl e) = ne e
        out (inr p) = p0 p (cross-same s (pt c))

        fresh : Mem (pt c) seen → ⊥
        fresh m = out (fn (pt c) m)

        sub' : (q : Pt) → Mem q (pt c ∷ seen) → Mem q P
        sub' q (Memᴰ.head e) = mathlib.Core.List.Memᴰ.cast e mc
        sub' q (Memᴰ.tail t) = sub q t

        le' : length P ≤ suc (length seen) + k
        le' = omega (arith, le)

        high : (q : Pt) → Mem q P → q ≢ s → PP (lin es.0 s q)
        high q m n = up (es.1 q m)
          where
            up : At es.0 s q → PP (lin es.0 s q)
            up (inl e) = absurd (n e)
            up (inr p) = p

        turn : pt (nx c) ≢ s → PP (cross s (pt c) (pt (nx c)))
        turn n = pp≡ (strict es.0 s (pt c) (pt (nx c)) (high _ mc ne) (high _ mn n) (r.1 s hs)) (sym (cyc s (pt c) (pt (nx c))))

        fn' : pt (nx c) ≢ s → (q : Pt) → Mem q (pt c ∷ seen) → (q ≡ s) ⊎ PP (cross s q (pt (nx c)))
        fn' n q (Memᴰ.head e) = inr (subst (λ t. PP (cross s t (pt (nx c)))) (sym e) (turn n))
        fn' n q (Memᴰ.tail t) = on (fn q t) (pt-dec q s)
          where
            on : (q ≡ s) ⊎ PP (cross s q (pt c)) → Dec (q ≡ s) → (q ≡ s) ⊎ PP (cross s q (pt (nx c)))
            on (inl e) d = inl e
            on (inr p) (yes e) = inl e
            on (inr p) (no qn) = inr (fan es.0 s q (pt c) (pt (nx c)) (high q (sub q t) qn) (high _ mc ne) (high _ mn n) p (turn n))

        go : (d : Bool) → same_pt (pt (nx c)) s ≡ d → (pt (nx c) ≢ s → Back k (nx c))
            → (vs : List Pt) × (◌≡◌ {A = List Pt} (pt c ∷ elim d [ true ↦ [] | false ↦ walk pt nx s k (nx c) ]) (pt c ∷ vs))
            × Run P (pt c) vs s × (¬ Mem s vs)
        go true h rec = ([], refl, subst (λ t. Edge P (pt c) t) (same_true _ _ h) r.1, λ m. elim m [ ])
        go false h rec = let n = same_false _ _ h in let b =
            rec n in (pt (nx c) ∷ b.0, ap (λ l. pt c ∷ l) b.1, (mn, r.1, b.2), λ m. off n b.3 m)
          where
            off : {vs : List Pt} → pt (nx c) ≢ s → (¬ Mem s vs) → Mem s (pt (nx c) ∷ vs) → ⊥
            off n h (Memᴰ.head e) = n (sym e)
            off n h (Memᴰ.tail t) = h t

    pub back_start : (n : ℕ) (c : S) → pt c ≡ s → length P ≤ n → (vs : List Pt) × (walk pt nx s n c ≡ s ∷ vs) × Run P s vs s × (¬ Mem s vs)
    unfolding walk Edge
    back_start zero c e le = absurd (full (pigeon (s ∷ []) P ((λ m. elim m [ ]), tt) (λ q m. one q m)))
      where
        one : (q : Pt) → Mem q (s ∷ []) → Mem q P
        one q (Memᴰ.head e) = mathlib.Core.List.Memᴰ.cast e hs
        one q (Memᴰ.tail t) = elim t [ ]

        full : suc zero ≤ length P → ⊥
        full h = omega arith
    back_start (suc k) c e le = go (same_pt (pt (nx c)) s) refl
      where
        r : Mem (pt (nx c)) P × Edge P (pt c) (pt (nx c))
        r = ok c (mathlib.Core.List.Memᴰ.cast e hs) (subst (Ext P) (sym e) es)

        edge : Edge P s (pt (nx c))
        edge = subst (λ t. Edge P t (pt (nx c))) e r.1

        one : (q : Pt) → Mem q (s ∷ []) → Mem q P
        one q (Memᴰ.head e) = mathlib.Core.List.Memᴰ.cast e hs
        one q (Memᴰ.tail t) = elim t [ ]

        only : (q : Pt) → Mem q (s ∷ []) → (q ≡ s) ⊎ PP (cross s q (pt (nx c)))
        only q (Memᴰ.head e) = inl e
        only q (Memᴰ.tail t) = elim t [ ]

        le' : length P ≤ 1 + k
        le' = omega (arith, le)

        go : (d : Bool) → same_pt (pt (nx c)) s ≡ d
            → (vs : List Pt) × (◌≡◌ {A = List Pt} (pt c ∷ elim d [ true ↦ [] | false ↦ walk pt nx s k (nx c) ]) (s ∷ vs)) × Run P s vs s
            × (¬ Mem s vs)
        go true h = ([], ap (λ t. t ∷ []) e, subst (λ t. Edge P s t) (same_true _ _ h) edge, λ m. elim m [ ])
        go false h =
            let n = same_false _ _ h in
            let b = back k (nx c) (s ∷ []) ((λ m. elim m [ ]), tt) one r.0 (ext-of-edge P (pt c) (pt (nx c)) r.1) only n le' in
            (pt (nx c) ∷ b.0, ap (λ t. t ∷ walk pt nx s k (nx c)) e ∙ ap (λ l. s ∷ l) b.1, (r.0, edge, b.2), λ m. off n b.3 m)
          where
            off : {vs : List Pt} → pt (nx c) ≢ s → (¬ Mem s vs) → Mem s (pt (nx c) ∷ vs) → ⊥
            off n h (Memᴰ.head e) = n (sym e)
            off n h (Memᴰ.tail t) = h t
