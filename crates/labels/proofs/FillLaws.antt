-- What the fill of a group keeps (Fill) and what group after group keeps (Outer): at the end every cell has its label.
--     a group: marked-ink, visit-fill, visits-fill, pop-fill, shut-fill, linked-done, next-fill, top-fill, emptied-fill
--     group after group: outer-begin, outer-skip, outer-mark, outer-group, outer-groups, outer-end
-- Assumes nothing.
use mathlib.Core.Bool.{Bool, cond, false, true}
use mathlib.Core.List.{List, [], ◌∷◌, Memᴰ}
use mathlib.Core.Logic.{◌⊎◌, inl, inr, ⊎_elim}
use mathlib.Core.Path.{◌∙◌, ◌≡◌, ap, refl, subst, sym}
use Prim.Native.Nat.{◌+◌, ◌<◌, ◌≤◌, suc, zero, ℕ}
use native.Mathlib.Omega.{arith}
use lib.ListN.{get_or, length, set}
use Rattle.labels.proofs.States.{Kept, marks-le, marked-in, visit-by, group-by, visit-kept, visit-done, visits-kept, visits-done, looked-kept, emptied-kept, emptied-empty}
use Rattle.labels.specs.Labelling.{MARK, State, push, after_visit, after_visits, popped, after_top, emptied, next, after_group, after_groups, start}
use Rattle.labels.specs.Inner.{marks, Shut}
use Rattle.laws.proofs.Bools.{at-or-below, clash, falsely, which}
use Rattle.laws.proofs.Counts.{count_most, count_no, count_yes}
use Rattle.laws.proofs.Writes.{at_set}
use Rattle.laws.specs.Count.{count}
use Rattle.labels.proofs.Graph.{first-ink, first_of, label-none, label_same, label-first, leader-self, linked-right}
use Rattle.labels.specs.Labels.{NearGrid, Linked, first?, here, label, leader, step}

-- The labels given so far are right and at most the last; what is near a cell with a label has one too, unless that cell is `o` or on the
-- stack; and the stack holds cells of the last label.
pub record Fill (ink : ℕ → Bool) (near : ℕ → ℕ → Bool) (n o : ℕ) (σ : State) : Type 0 where
  pub blank : (c : ℕ) → ink c ≡ false → get_or σ.held c 0 ≡ 0
  pub right : (c : ℕ) → ink c ≡ true → (get_or σ.held c 0 ≡ MARK → ⊥)
      → (get_or σ.held c 0 ≡ label ink near n c) × (label ink near n c ≤ σ.given)
  pub closed : (c : ℕ) → ink c ≡ true → (get_or σ.held c 0 ≡ MARK → ⊥) → (c ≡ o) ⊎ (Memᴰ c σ.stack ⊎ Shut near σ.held c)
  pub stacked : (c : ℕ) → Memᴰ c σ.stack → (ink c ≡ true) × (label ink near n c ≡ σ.given)

-- The cells before `s` are done.
pub record Outer (ink : ℕ → Bool) (near : ℕ → ℕ → Bool) (n s : ℕ) (σ : State) : Type 0 where
  pub fill : Fill ink near n n σ
  pub empty : σ.stack ≡ []
  pub size : length σ.held ≡ n
  pub passed : (c : ℕ) → c < s → get_or σ.held c 0 ≡ MARK → ⊥
  pub counted : σ.given ≡ count (first? ink near n) s

-- The cells that are visited round a cell are the near ones.
pub record Around (near : ℕ → ℕ → Bool) (n : ℕ) (round : ℕ → List ℕ) : Type 0 where
  pub near_by : (c j : ℕ) → Memᴰ j (round c) → near c j ≡ true
  pub all : (c j : ℕ) → near c j ≡ true → j < n → Memᴰ j (round c)

not_in : {c : ℕ} → Memᴰ c [] → ⊥
not_in t = elim t [ ]

module _ (ink : ℕ → Bool) (near : ℕ → ℕ → Bool) (n : ℕ) (g : NearGrid ink near n) where
  pub marked-ink : {o : ℕ} {σ : State} → Fill ink near n o σ → (c : ℕ) → get_or σ.held c 0 ≡ MARK → ink c ≡ true
  marked-ink {σ = σ} s c m = ⊎_elim (λ i. i) (λ i. absurd (let z : get_or σ.held c 0 ≡ 0 = s.blank c i in omega arith)) (which (ink c))

  module _ (o j : ℕ) (σ : State) (f : σ.given ≡ MARK → ⊥) (s : Fill ink near n o σ) where
    module _ (e : get_or σ.held j 0 ≡ MARK) (q : label ink near n j ≡ σ.given) where
      abbrev l' : List ℕ
      l' = set σ.held j σ.given

      i-j : ink j ≡ true
      i-j = marked-ink s j e

      at : (c : ℕ) → ((c ≡ j) × (get_or l' c 0 ≡ σ.given)) ⊎ ((c ≡ j → ⊥) × (get_or l' c 0 ≡ get_or σ.held c 0))
      at c = at_set σ.held j σ.given c (marked-in σ.held j e)

      now-shut : (c : ℕ) → Shut near σ.held c → Shut near l' c
      unfolding Shut
      now-shut c t d nr m = t d nr (⊎_elim (λ p. absurd (f (sym p.1 ∙ m))) (λ p. sym p.1 ∙ m) (at d))

      -- a cell that is no mark afterwards is `j`, or was none before
      right' : (c : ℕ) → ink c ≡ true → (get_or l' c 0 ≡ MARK → ⊥) → (get_or l' c 0 ≡ label ink near n c) × (label ink near n c ≤ σ.given)
      right' c i m = ⊎_elim
          (λ p. let z : label ink near n c ≡ label ink near n j = ap (label ink near n) p.0 in (p.1 ∙ sym (z ∙ q), omega arith))
          (λ p. let r = s.right c i (λ y. m (p.1 ∙ y)) in (p.1 ∙ r.0, r.1)) (at c)

      closed' : (c : ℕ) → ink c ≡ true → (get_or l' c 0 ≡ MARK → ⊥) → (c ≡ o) ⊎ (Memᴰ c (j ∷ σ.stack) ⊎ Shut near l' c)
      closed' c i m = ⊎_elim (λ p. inr (inl (Memᴰ.head p.0)))
          (λ p. ⊎_elim inl (λ w. inr (⊎_elim (λ x. inl (Memᴰ.tail x)) (λ x. inr (now-shut c x)) w))
          (s.closed c i (λ y. m (p.1 ∙ y))))
          (at c)

      stacked' : (c : ℕ) → Memᴰ c (j ∷ σ.stack) → (ink c ≡ true) × (label ink near n c ≡ σ.given)
      stacked' c (Memᴰ.head z) = (ap ink z ∙ i-j, ap (label ink near n) z ∙ q)
      stacked' c (Memᴰ.tail t) = s.stacked c t

      push-fill : Fill ink near n o (push j σ)
      push-fill = record {
        blank = λ c i. ⊎_elim (λ p. absurd (clash i-j (sym (ap ink p.0) ∙ i))) (λ p. p.1 ∙ s.blank c i) (at c);
        right = right';
        closed = closed';
        stacked = stacked';
      }

    -- a visit of a cell whose label is the last
    pub visit-fill : (ink j ≡ true → label ink near n j ≡ σ.given) → Fill ink near n o (after_visit j σ)
    visit-fill q = visit-by (Fill ink near n o) j σ (λ e. push-fill e (q (marked-ink s j e))) (λ e. s)

  -- visits of cells near `o`, which has the last label
  pub visits-fill : (js : List ℕ) (o : ℕ) (σ : State) → (σ.given ≡ MARK → ⊥) → ((j : ℕ) → Memᴰ j js → near o j ≡ true) → ink o ≡ true
      → label ink near n o ≡ σ.given → Fill ink near n o σ → Fill ink near n o (after_visits js σ)
  unfolding after_visits
  visits-fill [] o σ f nr i q s = s
  visits-fill (j ∷ js) o σ f nr i q s =
      let k = (visit-kept σ f j).given in
      visits-fill js o (after_visit j σ) (λ e. f (sym k ∙ e)) (λ d t. nr d (Memᴰ.tail t)) i (q ∙ sym k)
      (visit-fill o j σ f s (λ x. sym (label_same ink near n g (step (here i) (nr j (Memᴰ.head refl)) x)) ∙ q))

  -- The cell on top is taken from the stack, and is the one that is looked at.
  pub pop-fill : (c : ℕ) (rest : List ℕ) (σ : State) → σ.stack ≡ c ∷ rest → Fill ink near n n σ → Fill ink near n c (popped rest σ)
  pop-fill c rest σ e s = record {
    blank = s.blank;
    right = s.right;
    closed = λ d i m. ⊎_elim (λ p. absurd (omega (arith, g.within d i)))
        (λ w. ⊎_elim (λ x. top d (subst (Memᴰ d) e x)) (λ x. inr (inr x)) w) (s.closed d i m);
    stacked = λ d t. s.stacked d (subst (Memᴰ d) (sym e) (Memᴰ.tail t));
  }
    where
      top : (d : ℕ) → Memᴰ d (c ∷ rest) → (d ≡ c) ⊎ (Memᴰ d rest ⊎ Shut near σ.held d)
      top d (Memᴰ.head z) = inl z
      top d (Memᴰ.tail t) = inr (inl t)

  -- Once no cell near it is a mark, it is a cell as any other.
  pub shut-fill : (o : ℕ) (σ : State) → Fill ink near n o σ → Shut near σ.held o → Fill ink near n n σ
  shut-fill o σ s t = record {
    blank = s.blank;
    right = s.right;
    closed = λ c i m. ⊎_elim (λ p. inr (inr (subst (Shut near σ.held) (sym p) t))) inr (s.closed c i m);
    stacked = s.stacked;
  }

  -- With nothing on the stack, what is linked to a cell with a label has one.
  pub linked-done : (σ : State) → Fill ink near n n σ → σ.stack ≡ [] → {a b : ℕ} → Linked ink near a b → (get_or σ.held a 0 ≡ MARK → ⊥)
      → get_or σ.held b 0 ≡ MARK → ⊥
  unfolding Shut
  linked-done σ s e (here i) m = m
  linked-done σ s e (step {b = b} {c = c} r nr i) m =
      ⊎_elim
      (λ p. absurd (omega (arith, g.within b (linked-right ink near r))))
      (λ w. ⊎_elim (λ x. absurd (not_in (subst (Memᴰ b) e x))) (λ x. x c nr) w)
      (s.closed b (linked-right ink near r) (linked-done σ s e r m))

  -- Before a new group: all labels so far are at most the last, and so at most one more.
  pub next-fill : (σ : State) → Fill ink near n n σ → σ.stack ≡ [] → Fill ink near n n (next σ)
  next-fill σ s e = record {
    blank = s.blank;
    right = λ c i m. ((s.right c i m).0, omega (arith, (s.right c i m).1));
    closed = s.closed;
    stacked = λ c t. absurd (not_in (subst (Memᴰ c) e t));
  }

  module _ (round : ℕ → List ℕ) (a : Around near n round) where
    top-fill : (st : List ℕ) (σ : State) → σ.stack ≡ st → (σ.given ≡ MARK → ⊥) → length σ.held ≡ n → Fill ink near n n σ
        → Fill ink near n n (after_top round st σ)
    unfolding after_top Shut
    top-fill [] σ e f size s = s
    top-fill (c ∷ rest) σ e f size s =
        let i = s.stacked c (subst (Memᴰ c) (sym e) (Memᴰ.head refl)) in
        let k = visits-kept (round c) (popped rest σ) f in
        shut-fill c (after_visits (round c) (popped rest σ))
        (visits-fill (round c) c (popped rest σ) f (a.near_by c) i.0 i.1 (pop-fill c rest σ e s))
        (λ d nr m. visits-done (round c) (popped rest σ) f d
        (a.all c d nr (omega (arith, marked-in (after_visits (round c) (popped rest σ)).held d m, k.size))) m)

    pub emptied-fill : (t : ℕ) (σ : State) → (σ.given ≡ MARK → ⊥) → length σ.held ≡ n → Fill ink near n n σ
        → Fill ink near n n (emptied round t σ)
    unfolding emptied
    emptied-fill zero σ f size s = s
    emptied-fill (suc t) σ f size s =
        let k = looked-kept round σ.stack σ refl f in
        emptied-fill t (after_top round σ.stack σ) (λ e. f (sym k.given ∙ e)) (k.size ∙ size) (top-fill σ.stack σ refl f size s)

    -- ---- group after group
    pub outer-begin : (l : List ℕ) → length l ≡ n → ((c : ℕ) → get_or l c 0 ≡ cond (ink c) MARK 0) → Outer ink near n 0 (start l)
    unfolding count
    outer-begin l size h = record {
      fill = record {
        blank = λ c i. h c ∙ rw i;
        right = λ c i m. absurd (m (h c ∙ rw i));
        closed = λ c i m. absurd (m (h c ∙ rw i));
        stacked = λ c t. elim t [ ];
      };
      empty = refl;
      size = size;
      passed = λ c b. absurd (omega arith);
      counted = refl;
    }

    outer-skip : (s : ℕ) (σ : State) → Outer ink near n s σ → (get_or σ.held s 0 ≡ MARK → ⊥) → Outer ink near n (suc s) σ
    outer-skip s σ o m = record {
      fill = o.fill;
      empty = o.empty;
      size = o.size;
      passed = λ c b. ⊎_elim (λ p. rw p m) (λ p. o.passed c p) (at-or-below c s b);
      counted = o.counted ∙ sym (count_no (first? ink near n) s (falsely (first? ink near n s) new));
    }
      where
        new : first? ink near n s ≡ true → ⊥
        new p =
            let i = first-ink ink near n g s p in
            omega (arith, (o.fill.right s i m).1, label-first ink near n g s p, o.counted)

    module _ (s t : ℕ) (σ : State) (small : σ.given + 1 < MARK) (enough : n ≤ t) (o : Outer ink near n s σ)
        (m : get_or σ.held s 0 ≡ MARK) where
      f : (next σ).given ≡ MARK → ⊥
      f e = omega arith

      abbrev τ : State
      τ = after_visit s (next σ)

      k : Kept (next σ) τ
      k = visit-kept (next σ) f s

      f' : τ.given ≡ MARK → ⊥
      f' e = f (sym k.given ∙ e)

      i-s : ink s ≡ true
      i-s = marked-ink o.fill s m

      -- a cell before `s` that is linked to it would have a label, and `s` then too
      leads : leader ink near n s ≡ s
      leads = leader-self ink near n g s i-s (λ d b r. linked-done σ o.fill o.empty r (o.passed d b) m)

      new : first? ink near n s ≡ true
      new = first_of ink near n g s i-s leads

      label-s : label ink near n s ≡ σ.given + 1
      label-s = omega (arith, label-first ink near n g s new, o.counted)

      room : length τ.stack + marks τ.held ≤ t
      room =
          let z : length σ.stack ≡ 0 = ap length o.empty in
          omega (arith, k.fewer, marks-le σ.held, o.size)

      outer-mark : Outer ink near n (suc s) (emptied round t τ)
      outer-mark =
          let e = emptied-kept round t τ f' in
          record {
            fill = emptied-fill t τ f' (k.size ∙ o.size)
                (visit-fill n s (next σ) f (next-fill σ o.fill o.empty) (λ i. label-s));
            empty = emptied-empty round t τ f' room;
            size = e.size ∙ k.size ∙ o.size;
            passed = λ c b y. ⊎_elim (λ p. visit-done (next σ) f s (subst (λ (x : ℕ). get_or τ.held x 0 ≡ MARK) p (e.back c y)))
                (λ p. o.passed c p (k.back c (e.back c y))) (at-or-below c s b);
            counted = omega (arith, e.given, k.given, o.counted, count_yes (first? ink near n) s new);
          }

    outer-group : (s t : ℕ) (σ : State) → σ.given + 1 < MARK → n ≤ t → Outer ink near n s σ
        → Outer ink near n (suc s) (after_group round t s σ)
    outer-group s t σ small enough o = group-by (Outer ink near n (suc s)) round t s σ (outer-mark s t σ small enough o) (outer-skip s σ o)

    pub outer-groups : (s t : ℕ) (l : List ℕ) → s ≤ n → n + 1 < MARK → n ≤ t → Outer ink near n 0 (start l)
        → Outer ink near n s (after_groups round t s (start l))
    unfolding after_groups
    outer-groups zero t l upto small enough o = o
    outer-groups (suc s) t l upto small enough o =
        let r = outer-groups s t l (omega arith) small enough o in
        outer-group s t (after_groups round t s (start l)) (omega (arith, r.counted, count_most (first? ink near n) s)) enough r

    pub outer-end : (σ : State) → Outer ink near n n σ → (c : ℕ) → get_or σ.held c 0 ≡ label ink near n c
    outer-end σ o c =
        ⊎_elim (λ i. (o.fill.right c i (o.passed c (g.within c i))).0) (λ i. o.fill.blank c i ∙ sym (label-none ink near n g c i))
        (which (ink c))
