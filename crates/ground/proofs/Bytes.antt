-- Lists of bytes, and their parts.
use Prim.Native.Nat.{ℕ, zero, suc, ◌+◌, ◌<◌}
use mathlib.Core.Path.{◌≡◌}
use mathlib.Core.Bool.{Bool, true}
use mathlib.Core.List.{List, [], ◌∷◌, ◌++◌}
use native.Mathlib.Omega.{arith}
use lib.ListN.{take, drop, replicate}
use lib.Seq.{get_or-drop}
use Rattle.ground.specs.Bytes.{Bytes}
use Rattle.ground.specs.Every.{every}
use Rattle.ground.proofs.Tests.{and_left, and_right}

pub bytes_append : (s t : List ℕ) → Bytes s → Bytes t → Bytes (s ++ t)
bytes_append [] t f g i = g i
bytes_append (b ∷ s) t f g zero = f 0
bytes_append (b ∷ s) t f g (suc i) = bytes_append s t (λ (j : ℕ). f (suc j)) g i

pub bytes_take : (n : ℕ) (s : List ℕ) → Bytes s → Bytes (take n s)
bytes_take zero s f i = omega arith
bytes_take (suc n) [] f i = omega arith
bytes_take (suc n) (b ∷ s) f zero = f 0
bytes_take (suc n) (b ∷ s) f (suc i) = bytes_take n s (λ (j : ℕ). f (suc j)) i

pub bytes_drop : (n : ℕ) (s : List ℕ) → Bytes s → Bytes (drop n s)
bytes_drop n s f i = rw (get_or-drop n s i 0) (f (n + i))

-- what passes a test that only bytes pass
pub bytes_every : (f : ℕ → Bool) → ((b : ℕ) → f b ≡ true → b < 256) → (s : List ℕ) → every f s ≡ true → Bytes s
bytes_every f h [] e i = omega arith
bytes_every f h (b ∷ s) e zero = h b (and_left (f b) (every f s) e)
bytes_every f h (b ∷ s) e (suc i) = bytes_every f h s (and_right (f b) (every f s) e) i

pub bytes_replicate : (n b : ℕ) → b < 256 → Bytes (replicate n b)
bytes_replicate zero b h i = omega arith
bytes_replicate (suc n) b h zero = h
bytes_replicate (suc n) b h (suc i) = bytes_replicate n b h i
