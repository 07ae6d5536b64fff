-- The parts of the lists that are handed on. few: a picture's pixels have room; shown: the part of a file that has them, and as many colour
-- numbers. Assumes nothing.
use mathlib.Core.List.{List}
use mathlib.Core.Path.{◌≡◌}
use Prim.Native.Nat.{ℕ, ◌+◌, ◌-◌, ◌*◌, ◌≤◌}
use native.Mathlib.Nat.{mul-le-mul}
use native.Mathlib.Omega.{arith}
use lib.ListN.{length, take, drop, length-take, length-drop}
use Rattle.tray.specs.Input.{FileAt}
use Rattle.overlay.specs.Shown.{Shown}

pub few : {s : List ℕ} {w h at : ℕ} → FileAt 1024 s w h at → (plane : List ℕ) → 1048576 ≤ length plane → w * h ≤ length plane
few {s} {w} {h} f plane room = omega (arith, mul-le-mul f.wide f.high)

pub shown : (s : List ℕ) (w h at : ℕ) (plane : List ℕ) → FileAt 1024 s w h at → 1048576 ≤ length plane
    → Shown w h (take (at + w * h - at) (drop at s)) (take (w * h) plane)
shown s w h at plane f room =
    let part : at + w * h - at ≡ w * h = omega arith in
    let fits : at + w * h ≤ length s = f.within in
    let holds : w * h ≤ length plane = few f plane room in
    record {
      wide = f.wide;
      pixels = simp (length-take, length-drop) (omega arith);
      numbers = simp length-take (omega arith);
    }
