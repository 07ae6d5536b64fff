-- What the steps of a selection leave, in the words of their contracts. Definitions only. Assumes nothing.
use Rattle.std.specs.Prelude.{◌≡◌, List, true, false, ℕ, ◌-◌, ◌≤◌, ◌<◌, length, Float}
use Rattle.std.specs.Float.Ieee.{lt}
use Rattle.math.specs.Lists.{number_at}
use Rattle.medians.specs.Median.{SameValues}

-- a place from i on whose value is not below p, so that a walk upwards stops
pub record Stop (s : List Float) (i : ℕ) (p : Float) : Type 0 where
  pub place : ℕ
  pub from : i ≤ place
  pub within : place < length s
  pub holds : lt (number_at s place) p ≡ false

-- a place before e whose value is not above p, so that a walk downwards stops
pub record Floor (s : List Float) (e : ℕ) (p : Float) : Type 0 where
  pub place : ℕ
  pub before : place < e
  pub holds : lt p (number_at s place) ≡ false

-- r is the first place from i on whose value is not below p
pub record Risen (s : List Float) (i : ℕ) (p : Float) (r : ℕ) : Type 0 where
  pub from : i ≤ r
  pub within : r < length s
  pub stops : lt (number_at s r) p ≡ false
  pub passed : (x : ℕ) → i ≤ x → x < r → lt (number_at s x) p ≡ true

-- r is one more than the last place before e whose value is not above p
pub record Sunk (s : List Float) (e : ℕ) (p : Float) (r : ℕ) : Type 0 where
  pub upto : r ≤ e
  pub some : 0 < r
  pub stops : lt p (number_at s (r - 1)) ≡ false
  pub passed : (x : ℕ) → r ≤ x → x < e → lt p (number_at s x) ≡ true

-- before the first exchange, the pivot's own place; after it, something on either side
pub data Round (s : List Float) (p : Float) (i e : ℕ) : Type 0 where
  fresh : (m : ℕ) → m < length s → number_at s m ≡ p → i ≡ 0 → e ≡ length s → Round s p i e
  going : 0 < i → e < length s → Round s p i e

-- a partition under way: nothing before i is above p, and nothing from e on is below it
pub record Parting (s : List Float) (p : Float) (i e : ℕ) : Type 0 where
  pub i-in : i ≤ length s
  pub e-in : e ≤ length s
  pub low : (x : ℕ) → x < i → lt p (number_at s x) ≡ false
  pub high : (x : ℕ) → e ≤ x → x < length s → lt (number_at s x) p ≡ false
  pub round : Round s p i e

-- one round: from s, i, e to t, j, d, with less between
pub record Turned (s t : List Float) (p : Float) (i e j d : ℕ) : Type 0 where
  pub same : SameValues s t
  pub parting : Parting t p j d
  pub less : d - j < e - i

-- s, partitioned into t by the value at one of its places
pub record Parted (s t : List Float) (i e : ℕ) : Type 0 where
  pub same : SameValues s t
  pub long : length t ≡ length s
  pub place : ℕ
  pub within : place < length s
  pub low : (x : ℕ) → x < i → lt (number_at s place) (number_at t x) ≡ false
  pub high : (x : ℕ) → e ≤ x → x < length t → lt (number_at t x) (number_at s place) ≡ false
  pub meet : e ≤ i
  pub some : 0 < i
  pub fewer : e < length s
  pub i-in : i ≤ length s

-- t has the values of s, with r at its place k, nothing before it above r and nothing after it below
pub record Selected (s t : List Float) (k : ℕ) (r : Float) : Type 0 where
  pub same : SameValues s t
  pub long : length t ≡ length s
  pub is : r ≡ number_at t k
  pub before : (x : ℕ) → x < k → lt r (number_at t x) ≡ false
  pub after : (x : ℕ) → k ≤ x → x < length t → lt (number_at t x) r ≡ false

-- r is at one of the first n places, and none of them is above it
pub record Largest (s : List Float) (n : ℕ) (r : Float) : Type 0 where
  pub place : ℕ
  pub within : place < n
  pub is : number_at s place ≡ r
  pub top : (x : ℕ) → x < n → lt r (number_at s x) ≡ false
