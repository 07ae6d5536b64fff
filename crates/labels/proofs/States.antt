-- What visits, one cell taken from the stack and the emptied stack keep.
--     marks: marks-le, marks-set, marked-in
--     a visit, a group: visit-open, visit-passed, visit-by, group-by, visits-add
--     Kept, from a state to a later one: kept_same, kept_then, visit-kept, visits-kept, pop_kept, looked-kept, emptied-kept
--     visits-done: no visited cell is open; emptied-empty: nothing is left on the stack
--     the lists of the code: Shows, shows-visit, safe-by, safe-on
-- Assumes nothing.
use mathlib.Core.Bool.{false, true}
use mathlib.Core.List.{List, [], ◌∷◌, ◌++◌, Memᴰ}
use mathlib.Core.Logic.{◌⊎◌, inl, inr, ⊎_elim}
use mathlib.Core.Path.{◌∙◌, ◌≡◌, ap, ap₂, refl, subst, sym}
use Prim.Native.Nat.{◌+◌, ◌<◌, ◌≤◌, suc, zero, ℕ}
use native.Mathlib.Decide.{ℕ_discrete}
use native.Mathlib.Omega.{arith}
use lib.Dec.{eqb}
use lib.ListN.{get_or, length, length-set, set}
use lib.Seq.{get_or-set_same}
use borrow.Author.Tests.{eq-eqb, ne_eqb}
use Rattle.laws.specs.Lists.{stack_of}
use Rattle.laws.proofs.Lists.{stack_push, stack-length}
use Rattle.laws.proofs.Bools.{which}
use Rattle.laws.proofs.Writes.{at_set}
use Rattle.labels.specs.Labelling.{MARK, State, push, after_visit, after_visits, popped, after_top, emptied, next, after_group}
use Rattle.labels.specs.Inner.{marks, Shows, Safe}

-- ---- marks
pub marks-le : (l : List ℕ) → marks l ≤ length l
unfolding marks
marks-le [] = omega arith
marks-le (x ∷ xs) = go (marks-le xs) (which (eqb x MARK))
  where
    go : marks xs ≤ length xs → (eqb x MARK ≡ true) ⊎ (eqb x MARK ≡ false) → marks (x ∷ xs) ≤ suc (length xs)
    go ih (inl e) = rw e (omega arith)
    go ih (inr e) = rw e (omega arith)

marks-yes : (x : ℕ) (xs : List ℕ) → x ≡ MARK → marks (x ∷ xs) ≡ suc (marks xs)
unfolding marks
marks-yes x xs e = rw (eq-eqb x MARK e)

marks-no : (x : ℕ) (xs : List ℕ) → (x ≡ MARK → ⊥) → marks (x ∷ xs) ≡ marks xs
unfolding marks
marks-no x xs e = rw (ne_eqb x MARK e)

pub marks-set : (l : List ℕ) (j v : ℕ) → get_or l j 0 ≡ MARK → (v ≡ MARK → ⊥) → marks (set l j v) + 1 ≡ marks l
marks-set [] j v e f = absurd (omega arith)
marks-set (x ∷ xs) zero v e f = omega (arith, marks-yes x xs e, marks-no v xs f)
marks-set (x ∷ xs) (suc j) v e f = go (marks-set xs j v e f) (ℕ_discrete x MARK)
  where
    go : marks (set xs j v) + 1 ≡ marks xs → Dec (x ≡ MARK) → marks (x ∷ set xs j v) + 1 ≡ marks (x ∷ xs)
    go ih (yes p) = omega (arith, marks-yes x xs p, marks-yes x (set xs j v) p)
    go ih (no p) = omega (arith, marks-no x xs p, marks-no x (set xs j v) p)

pub marked-in : (l : List ℕ) (j : ℕ) → get_or l j 0 ≡ MARK → j < length l
marked-in [] j e = absurd (omega arith)
marked-in (x ∷ xs) zero e = omega arith
marked-in (x ∷ xs) (suc j) e = omega (arith, marked-in xs j e)

-- ---- a visit
pub visit-open : (j : ℕ) (σ : State) → get_or σ.held j 0 ≡ MARK → after_visit j σ ≡ push j σ
unfolding after_visit
visit-open j σ e = rw (eq-eqb (get_or σ.held j 0) MARK e)

pub visit-passed : (j : ℕ) (σ : State) → (get_or σ.held j 0 ≡ MARK → ⊥) → after_visit j σ ≡ σ
unfolding after_visit
visit-passed j σ e = rw (ne_eqb (get_or σ.held j 0) MARK e)

pub visit-by : (P : State → Type 0) (j : ℕ) (σ : State) → (get_or σ.held j 0 ≡ MARK → P (push j σ))
    → ((get_or σ.held j 0 ≡ MARK → ⊥) → P σ) → P (after_visit j σ)
visit-by P j σ open' else' = go (ℕ_discrete (get_or σ.held j 0) MARK)
  where
    go : Dec (get_or σ.held j 0 ≡ MARK) → P (after_visit j σ)
    go (yes e) = rw (visit-open j σ e) (open' e)
    go (no e) = rw (visit-passed j σ e) (else' e)

pub group-by : (P : State → Type 0) (near : ℕ → List ℕ) (t s : ℕ) (σ : State)
    → (get_or σ.held s 0 ≡ MARK → P (emptied near t (after_visit s (next σ)))) → ((get_or σ.held s 0 ≡ MARK → ⊥) → P σ)
    → P (after_group near t s σ)
unfolding after_group
group-by P near t s σ open' else' = go (ℕ_discrete (get_or σ.held s 0) MARK)
  where
    go : Dec (get_or σ.held s 0 ≡ MARK) → P (after_group near t s σ)
    go (yes e) = rw (eq-eqb (get_or σ.held s 0) MARK e) (open' e)
    go (no e) = rw (ne_eqb (get_or σ.held s 0) MARK e) (else' e)

pub visits-add : (is js : List ℕ) (σ : State) → after_visits (is ++ js) σ ≡ after_visits js (after_visits is σ)
unfolding after_visits
visits-add [] js σ = refl
visits-add (i ∷ is) js σ = visits-add is js (after_visit i σ)

-- ---- from a state to a later one with as many labels
pub record Kept (σ τ : State) : Type 0 where
  pub given : τ.given ≡ σ.given
  pub size : length τ.held ≡ length σ.held
  pub back : (c : ℕ) → get_or τ.held c 0 ≡ MARK → get_or σ.held c 0 ≡ MARK
  pub fewer : length τ.stack + marks τ.held ≤ length σ.stack + marks σ.held
  pub inside : ((c : ℕ) → Memᴰ c σ.stack → c < length σ.held) → (c : ℕ) → Memᴰ c τ.stack → c < length τ.held

pub kept_same : (σ : State) → Kept σ σ
kept_same σ = record { given = refl; size = refl; back = λ c m. m; fewer = omega arith; inside = λ h. h }

pub kept_then : {σ τ υ : State} → Kept σ τ → Kept τ υ → Kept σ υ
kept_then p q = record {
  given = q.given ∙ p.given;
  size = q.size ∙ p.size;
  back = λ c m. p.back c (q.back c m);
  fewer = omega (arith, p.fewer, q.fewer);
  inside = λ h. q.inside (p.inside h);
}

pub pop_kept : {σ : State} {c : ℕ} {rest : List ℕ} → σ.stack ≡ c ∷ rest → Kept σ (popped rest σ)
pop_kept {σ} {c} {rest} e = record {
  given = refl;
  size = refl;
  back = λ d m. m;
  fewer = let z : length σ.stack ≡ suc (length rest) = ap length e in omega arith;
  inside = λ h d m. h d (subst (Memᴰ d) (sym e) (Memᴰ.tail m));
}

-- the labels that are given are no marks
module _ (σ : State) (f : σ.given ≡ MARK → ⊥) where
  push_kept : (j : ℕ) → get_or σ.held j 0 ≡ MARK → Kept σ (push j σ)
  push_kept j e = record {
    given = refl;
    size = length-set σ.held j _;
    back = λ c m. ⊎_elim (λ p. absurd (f (sym p.1 ∙ m))) (λ p. sym p.1 ∙ m) (at_set σ.held j _ c here);
    fewer = omega (arith, marks-set σ.held j σ.given e f);
    inside = λ h c m. omega (arith, length-set σ.held j σ.given, within h c m);
  }
    where
      here : j < length σ.held
      here = marked-in σ.held j e

      within : ((c : ℕ) → Memᴰ c σ.stack → c < length σ.held) → (c : ℕ) → Memᴰ c (j ∷ σ.stack) → c < length σ.held
      within h c (Memᴰ.head z) = omega (arith, z, here)
      within h c (Memᴰ.tail m) = h c m

  pub visit-kept : (j : ℕ) → Kept σ (after_visit j σ)
  visit-kept j = visit-by (Kept σ) j σ (push_kept j) (λ e. kept_same σ)

  -- the visited cell is not open afterwards
  pub visit-done : (j : ℕ) → get_or (after_visit j σ).held j 0 ≡ MARK → ⊥
  visit-done j =
      visit-by (λ τ. get_or τ.held j 0 ≡ MARK → ⊥) j σ
      (λ e m. f (sym (get_or-set_same σ.held j σ.given 0 (marked-in σ.held j e)) ∙ m)) (λ e. e)

pub visits-kept : (js : List ℕ) (σ : State) → (σ.given ≡ MARK → ⊥) → Kept σ (after_visits js σ)
unfolding after_visits
visits-kept [] σ f = kept_same σ
visits-kept (j ∷ js) σ f =
    let k = visit-kept σ f j in
    kept_then k (visits-kept js (after_visit j σ) (λ e. f (sym k.given ∙ e)))

pub visits-done : (js : List ℕ) (σ : State) → (σ.given ≡ MARK → ⊥) → (j : ℕ) → Memᴰ j js
    → get_or (after_visits js σ).held j 0 ≡ MARK → ⊥
unfolding after_visits
visits-done [] σ f j t m = elim t [ ]
visits-done (i ∷ js) σ f j (Memᴰ.head e) m =
    let g : (after_visit i σ).given ≡ MARK → ⊥ = λ z. f (sym (visit-kept σ f i).given ∙ z) in
    visit-done σ f i ((visits-kept js (after_visit i σ) g).back i (rw e at m))
visits-done (i ∷ js) σ f j (Memᴰ.tail t) m =
    visits-done js (after_visit i σ) (λ z. f (sym (visit-kept σ f i).given ∙ z)) j t m

-- ---- the stack emptied
module _ (near : ℕ → List ℕ) where
  pub looked-kept : (st : List ℕ) (σ : State) → σ.stack ≡ st → (σ.given ≡ MARK → ⊥) → Kept σ (after_top near st σ)
  unfolding after_top
  looked-kept [] σ e f = kept_same σ
  looked-kept (c ∷ rest) σ e f = kept_then (pop_kept e) (visits-kept (near c) (popped rest σ) f)

  pub emptied-kept : (t : ℕ) (σ : State) → (σ.given ≡ MARK → ⊥) → Kept σ (emptied near t σ)
  unfolding emptied
  emptied-kept zero σ f = kept_same σ
  emptied-kept (suc t) σ f =
      let k = looked-kept σ.stack σ refl f in
      kept_then k (emptied-kept t (after_top near σ.stack σ) (λ e. f (sym k.given ∙ e)))

  -- an empty stack stays as it is
  pub emptied-none : (t : ℕ) (σ : State) → σ.stack ≡ [] → emptied near t σ ≡ σ
  unfolding emptied after_top
  emptied-none zero σ e = refl
  emptied-none (suc t) σ e = ap (λ (st : List ℕ). emptied near t (after_top near st σ)) e ∙ emptied-none t σ e

  -- a cell taken leaves less: cells on the stack and open cells
  pub looked-less : (c : ℕ) (rest : List ℕ) (σ : State) → σ.stack ≡ c ∷ rest → (σ.given ≡ MARK → ⊥)
      → length (after_top near (c ∷ rest) σ).stack + marks (after_top near (c ∷ rest) σ).held < length σ.stack + marks σ.held
  unfolding after_top
  looked-less c rest σ e f =
      let z : length σ.stack ≡ suc (length rest) = ap length e in
      omega (arith, (visits-kept (near c) (popped rest σ) f).fewer)

  -- after as many turns as there are cells on the stack and open cells nothing is left
  emptied-turn : (t : ℕ) (st : List ℕ) (σ : State) → σ.stack ≡ st → (σ.given ≡ MARK → ⊥) → length σ.stack + marks σ.held ≤ suc t
      → ((τ : State) → (τ.given ≡ MARK → ⊥) → length τ.stack + marks τ.held ≤ t → (emptied near t τ).stack ≡ [])
      → (emptied near (suc t) σ).stack ≡ []
  unfolding emptied
  emptied-turn t [] σ e f h rest = ap (λ (τ : State). τ.stack) (emptied-none (suc t) σ e) ∙ e
  emptied-turn t (c ∷ cs) σ e f h rest =
      ap (λ (x : List ℕ). (emptied near t (after_top near x σ)).stack) e
      ∙ rest (after_top near (c ∷ cs) σ) (λ z. f (sym (looked-kept (c ∷ cs) σ e f).given ∙ z)) (omega (arith, looked-less c cs σ e f))

  pub emptied-empty : (t : ℕ) (σ : State) → (σ.given ≡ MARK → ⊥) → length σ.stack + marks σ.held ≤ t → (emptied near t σ).stack ≡ []
  emptied-empty zero σ f h = go σ.stack refl
    where
      go : (st : List ℕ) → σ.stack ≡ st → (emptied near zero σ).stack ≡ []
      go [] e = ap (λ (τ : State). τ.stack) (emptied-none zero σ e) ∙ e
      go (c ∷ cs) e = let z : length σ.stack ≡ suc (length cs) = ap length e in absurd (omega arith)
  emptied-empty (suc t) σ f h = emptied-turn t σ.stack σ refl f h (λ τ g l. emptied-empty t τ g l)

-- ---- the lists of the code
-- a state that the lists show
abbrev pub shown : List ℕ → List ℕ → ℕ → ℕ → State
shown l st k v = record { given = v; held = l; stack = stack_of st k; pushed = [] }

pub shown-shows : (l st : List ℕ) (k v : ℕ) → Shows l st k v (shown l st k v)
shown-shows l st k v = record { given = refl; held = refl; stack = refl }

pub safe-begin : (l st : List ℕ) → length l ≤ length st → Safe l st 0
unfolding stack_of
safe-begin l st h = record { room = omega (arith, marks-le l); inside = λ c t. elim t [ ] }

-- what keeps the marks, and the cells of the stack inside, keeps the code safe
pub safe-on : {l st l' st' : List ℕ} {k k' v : ℕ} {τ : State} → Kept (shown l st k v) τ → Shows l' st' k' v τ → length st' ≡ length st
    → Safe l st k → Safe l' st' k'
safe-on {l} {st} {l'} {st'} {k} {k'} {v} {τ} q s e f =
    let long : length τ.stack ≡ k' = ap length s.stack ∙ stack-length st' k' in
    let open' : marks τ.held ≡ marks l' = ap marks s.held in
    let size : length τ.held ≡ length l' = ap length s.held in
    record {
      room = omega (arith, q.fewer, stack-length st k, f.room);
      inside = λ c t. omega (arith, q.inside f.inside c (subst (Memᴰ c) (sym s.stack) t));
    }

-- an open cell has a place left on the stack
pub room_open : {l st : List ℕ} {k : ℕ} → Safe l st k → (j : ℕ) → get_or l j 0 ≡ MARK → k < length st
room_open {l} s j e = omega (arith, s.room, marks-set l j 0 e (λ q. omega arith))

-- a push
pub shows-push : {l st : List ℕ} {k v : ℕ} {σ : State} (j : ℕ) → Shows l st k v σ → get_or l j 0 ≡ MARK → k < length st
    → Shows (set l j v) (set st k j) (k + 1) v (after_visit j σ)
shows-push {l} {st} {k} {v} {σ} j s m h =
    rw (visit-open j σ (ap (λ (x : List ℕ). get_or x j 0) s.held ∙ m)) (record {
      given = s.given;
      held = ap₂ (λ (x : List ℕ) (n : ℕ). set x j n) s.held s.given;
      stack = ap (λ (x : List ℕ). j ∷ x) s.stack ∙ sym (stack_push st k j h);
    })

pub shows-pass : {l st : List ℕ} {k v : ℕ} {σ : State} (j : ℕ) → Shows l st k v σ → (get_or l j 0 ≡ MARK → ⊥)
    → Shows l st k v (after_visit j σ)
shows-pass {l} {σ = σ} j s m = rw (visit-passed j σ (λ e. m (sym (ap (λ (x : List ℕ). get_or x j 0) s.held) ∙ e))) s
