-- Squares posed, cells posed with them, and what a posed square has at outer cells.
--     Within, spot-within                  cells stay in the square
--     posed-dark                           a dark cell of a posed square is the posed cell
--     posed-ext, posed-all                 squares that agree; one grey throughout
--     posed-outer                          a posed square at the outer cell of the pose's map
--     turned-.., spot-forward, spot-reversed   what the code computes
-- Assumes nothing.
use mathlib.Core.Path.{◌≡◌, refl, sym, ap, ◌∙◌, subst}
use mathlib.Core.Bool.{Bool, true, false}
use Prim.Native.Nat.{ℕ, zero, suc, ◌+◌, ◌*◌, ◌-◌, ◌%◌, ◌<◌, ◌≤◌}
use native.Mathlib.Omega.{arith}
use Rattle.laws.specs.Move.{transpose, turn}
use Rattle.laws.specs.Plane.{Plane}
use Rattle.lcr_core.proofs.Round.{OuterAt, outer-swapped, outer-turned, outer-within}
use Rattle.lcr_core.specs.Border.{outer_x, outer_y}
use Rattle.lcr_core.specs.Version.{positions_of, quarter_of}
use Rattle.marks.proofs.PoseMoves.{pose-next, pose-own}
use Rattle.marks.proofs.Poses.{four, pose-within}
use Rattle.marks.specs.Pose.{pose_at}
use Rattle.proof_ring.specs.Inner.{dark_if, spot_to, spot_turned}
use Rattle.proof_ring.specs.Picture.{posed, square_side, turns}
use Rattle.proof_ring.specs.declared.cells.Spot.{Spot}
use Rattle.proof_ring.proofs.Boxes.{Hit, dark-by, dark-in, dark-out}

-- ---- cells and squares

pub record Within (q : ℕ) (s : Spot) : Type 0 where
  pub across : s.x ≤ q
  pub down : s.y ≤ q

turned-within : (q r : ℕ) (s : Spot) → Within q s → Within q (spot_turned q r s)
unfolding spot_turned
turned-within q zero s w = w
turned-within q (suc r) s w = let i = turned-within q r s w in record { across = omega arith; down = i.across }

pub spot-within : (q r : ℕ) (reversed : Bool) (s : Spot) → Within q s → Within q (spot_to q r reversed s)
unfolding spot_to
spot-within q r false s w = turned-within q r s w
spot-within q r true s w = turned-within q r (record { x = s.y; y = s.x }) (record { across = w.down; down = w.across })

module _ (n q : ℕ) (last : n ≡ q + 1) where
  turns-ext : (r : ℕ) (f g : Plane) → ((x y : ℕ) → x ≤ q → y ≤ q → f x y ≡ g x y) → (x y : ℕ) → x ≤ q → y ≤ q
      → turns n r f x y ≡ turns n r g x y
  unfolding turns
  turns-ext zero f g same x y lx ly = same x y lx ly
  turns-ext (suc r) f g same x y lx ly = turns-ext r f g same y (n - 1 - x) ly (omega arith)

  -- ---- dark cells

  -- one quarter turn
  turn-dark : (s : Spot) (g : Plane) → Within q s → (x y : ℕ) → x ≤ q → y ≤ q
      → dark_if true s g y (n - 1 - x) ≡ dark_if true (record { x = q - s.y; y = s.x }) (turn n g) x y
  turn-dark s g w x y lx ly =
      dark-by true (record { x = q - s.y; y = s.x }) (turn n g) x y (dark_if true s g y (n - 1 - x))
      (λ i. dark-in true s g y (n - 1 - x) (record { test = refl; across = i.down; down = up i }))
      (λ off. dark-out true s g y (n - 1 - x) (λ i. off (record { test = refl; across = back i; down = i.across })))
    where
      up : Hit true (record { x = q - s.y; y = s.x }) x y → n - 1 - x ≡ s.y
      up i = omega (arith, i.across, w.down)

      back : Hit true s y (n - 1 - x) → x ≡ q - s.y
      back i = omega (arith, i.down)

  turns-dark : (r : ℕ) (s : Spot) (g : Plane) → Within q s → (x y : ℕ) → x ≤ q → y ≤ q
      → turns n r (dark_if true s g) x y ≡ dark_if true (spot_turned q r s) (turns n r g) x y
  unfolding turns spot_turned
  turns-dark zero s g w x y lx ly = refl
  turns-dark (suc r) s g w x y lx ly =
      turns-dark r s g w y (n - 1 - x) ly (omega arith)
      ∙ turn-dark (spot_turned q r s) (turns n r g) (turned-within q r s w) x y lx ly

  swap-dark : (s : Spot) (g : Plane) (x y : ℕ) → dark_if true s g y x ≡ dark_if true (record { x = s.y; y = s.x }) (transpose g) x y
  swap-dark s g x y =
      dark-by true (record { x = s.y; y = s.x }) (transpose g) x y (dark_if true s g y x)
      (λ i. dark-in true s g y x (record { test = refl; across = i.down; down = i.across }))
      (λ off. dark-out true s g y x (λ i. off (record { test = refl; across = i.down; down = i.across })))

  pub posed-dark : (r : ℕ) (reversed : Bool) (s : Spot) (g : Plane) → Within q s → (x y : ℕ) → x ≤ q → y ≤ q
      → posed n r reversed (dark_if true s g) x y ≡ dark_if true (spot_to q r reversed s) (posed n r reversed g) x y
  unfolding posed spot_to
  posed-dark r false s g w x y lx ly = turns-dark r s g w x y lx ly
  posed-dark r true s g w x y lx ly =
      turns-ext r (transpose (dark_if true s g)) (dark_if true (record { x = s.y; y = s.x }) (transpose g))
      (λ a b _ _. swap-dark s g a b) x y lx ly
      ∙ turns-dark r (record { x = s.y; y = s.x }) (transpose g) (record { across = w.down; down = w.across }) x y lx ly

  -- ---- squares that agree, and one grey throughout

  pub posed-ext : (r : ℕ) (reversed : Bool) (f g : Plane) → ((x y : ℕ) → x ≤ q → y ≤ q → f x y ≡ g x y) → (x y : ℕ) → x ≤ q → y ≤ q
      → posed n r reversed f x y ≡ posed n r reversed g x y
  unfolding posed
  posed-ext r false f g same = turns-ext r f g same
  posed-ext r true f g same = turns-ext r (transpose f) (transpose g) (λ x y lx ly. same y x ly lx)

  turns-all : (r : ℕ) (g : Plane) (c : ℕ) → ((x y : ℕ) → g x y ≡ c) → (x y : ℕ) → turns n r g x y ≡ c
  unfolding turns
  turns-all zero g c all x y = all x y
  turns-all (suc r) g c all x y = turns-all r g c all y (n - 1 - x)

  pub posed-all : (r : ℕ) (reversed : Bool) (g : Plane) (c : ℕ) → ((x y : ℕ) → g x y ≡ c) → (x y : ℕ) → posed n r reversed g x y ≡ c
  unfolding posed
  posed-all r false g c all = turns-all r g c all
  posed-all r true g c all = turns-all r (transpose g) c (λ x y. all y x)

-- ---- posed squares at outer cells

module _ (v : ℕ) where
  abbrev q : ℕ
  q = quarter_of v

  abbrev n : ℕ
  n = square_side v

  -- a square at the outer cell of p
  abbrev at_outer : Plane → ℕ → ℕ
  at_outer g p = g (outer_x q p) (outer_y q p)

  turn-outer : (g : Plane) (p : ℕ) → p < positions_of v → at_outer (turn n g) ((p + q) % positions_of v) ≡ at_outer g p
  turn-outer g p h =
      subst (λ (m : ℕ). at_outer (turn n g) ((p + q) % m) ≡ at_outer g p) (sym (four v)) (go (outer-turned q (omega arith) p (omega arith)))
    where
      go : OuterAt q ((p + q) % (4 * q)) (q - outer_y q p) (outer_x q p) → at_outer (turn n g) ((p + q) % (4 * q)) ≡ at_outer g p
      go o =
          let y : n - 1 - outer_x q ((p + q) % (4 * q)) ≡ outer_y q p = omega (arith, o.across, outer-down p (omega arith)) in
          ap (λ (k : ℕ). g k (n - 1 - outer_x q ((p + q) % (4 * q)))) o.down ∙ ap (λ (k : ℕ). g (outer_x q p) k) y
        where
          outer-down : (p : ℕ) → p < 4 * q → outer_y q p ≤ q
          outer-down p h = (outer-within q (omega arith) p h).1

  turns-outer : (g : Plane) (f : ℕ → ℕ) (r : ℕ) (reversed : Bool) (p : ℕ) → at_outer g (pose_at v 0 reversed p) ≡ f p
      → at_outer (turns n r g) (pose_at v r reversed p) ≡ f p
  unfolding turns
  turns-outer g f zero reversed p e = e
  turns-outer g f (suc r) reversed p e =
      ap (λ (k : ℕ). at_outer (turn n (turns n r g)) k) (pose-next v r reversed p)
      ∙ turn-outer (turns n r g) (pose_at v r reversed p) (pose-within v r reversed p)
      ∙ turns-outer g f r reversed p e

  -- what a square has at the outer cell of p, the posed square has at that of the map's value
  pub posed-outer : (g : Plane) (r : ℕ) (reversed : Bool) (p : ℕ) → p < positions_of v
      → at_outer (posed n r reversed g) (pose_at v r reversed p) ≡ at_outer g p
  unfolding posed
  posed-outer g r false p h =
      turns-outer g (λ k. at_outer g k) r false p (ap (λ (k : ℕ). at_outer g k) (pose-own v p h))
  posed-outer g r true p h =
      turns-outer (transpose g) (λ k. at_outer g k) r true p (first (outer-swapped q (omega arith) p (omega arith)))
    where
      zero-turns : pose_at v 0 true p ≡ (4 * q - p) % (4 * q)
      zero-turns =
          unfold pose_at in
          (let e : 0 * q + (positions_of v - p) ≡ 4 * q - p = omega arith in
          ap (λ (k : ℕ). k % positions_of v) e ∙ ap (λ (m : ℕ). (4 * q - p) % m) (four v))

      first : OuterAt q ((4 * q - p) % (4 * q)) (outer_y q p) (outer_x q p) → at_outer (transpose g) (pose_at v 0 true p) ≡ at_outer g p
      first o =
          ap (λ (k : ℕ). at_outer (transpose g) k) zero-turns
          ∙ ap (λ (k : ℕ). g k (outer_x q ((4 * q - p) % (4 * q)))) o.down ∙ ap (λ (k : ℕ). g (outer_x q p) k) o.across

-- ---- what the code computes

pub turned-0 : (q r : ℕ) (s : Spot) → r ≡ 0 → s ≡ spot_turned q r s
unfolding spot_turned
turned-0 q r s e = ap (λ (k : ℕ). spot_turned q k s) (sym e)

pub turned-1 : (q r : ℕ) (s : Spot) → r ≡ 1 → ◌≡◌ {A = Spot} (record { x = q - s.y; y = s.x }) (spot_turned q r s)
unfolding spot_turned
turned-1 q r s e = ap (λ (k : ℕ). spot_turned q k s) (sym e)

pub turned-2 : (q r : ℕ) (s : Spot) → r ≡ 2 → ◌≡◌ {A = Spot} (record { x = q - s.x; y = q - s.y }) (spot_turned q r s)
unfolding spot_turned
turned-2 q r s e = ap (λ (k : ℕ). spot_turned q k s) (sym e)

pub turned-3 : (q r : ℕ) (s : Spot) → r ≡ 3 → s.y ≤ q → ◌≡◌ {A = Spot} (record { x = s.y; y = q - s.x }) (spot_turned q r s)
unfolding spot_turned
turned-3 q r s e h =
    let z : s.y ≡ q - (q - s.y) = omega arith in
    ap (λ (k : ℕ). record { x = k; y = q - s.x }) z ∙ ap (λ (k : ℕ). spot_turned q k s) (sym e)

pub spot-forward : (q r : ℕ) (b : Bool) (s t : Spot) → b ≡ false → t ≡ spot_turned q r s → t ≡ spot_to q r b s
unfolding spot_to
spot-forward q r b s t e p = p ∙ ap (λ (c : Bool). spot_to q r c s) (sym e)

pub spot-reversed : (q r : ℕ) (b : Bool) (s t : Spot) → b ≡ true → t ≡ spot_turned q r (record { x = s.y; y = s.x }) → t ≡ spot_to q r b s
unfolding spot_to
spot-reversed q r b s t e p = p ∙ ap (λ (c : Bool). spot_to q r c s) (sym e)
