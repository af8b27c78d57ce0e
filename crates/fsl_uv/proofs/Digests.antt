-- The digest of bytes is a name.
use Rattle.std.proofs.Common.{◌≡◌, ℕ, zero, suc, ◌*◌, ◌/◌, List, [], ◌∷◌, ◌++◌, length, length-append, refl, arith}
use Rattle.std.specs.Prelude.{slice_index}
use Rattle.std.specs.Int.{to_be_bytes, w32}
use Rattle.sha1.specs.Sha1.{sha1, digest_bytes, hash_after, padded_message}
use Rattle.fsl_text.specs.Bytes.{AreBytes}
use Rattle.fsl_name.specs.Name.{IsName, name_of}

both : (a b : List ℕ) → AreBytes a → AreBytes b → AreBytes (a ++ b)
both [] b h k = k
both (x ∷ a) b h k = (h.0, both a b h.1 k)

word : (n : ℕ) → AreBytes (to_be_bytes w32 n)
word n = (omega arith, (omega arith, (omega arith, (omega arith, tt))))

word-long : (n : ℕ) → length (to_be_bytes w32 n) ≡ 4
word-long n = refl

words : (h : List ℕ) (n : ℕ) → AreBytes (digest_bytes h n)
unfolding digest_bytes
words h zero = tt
words h (suc n) = both (digest_bytes h n) (to_be_bytes w32 (slice_index h n)) (words h n) (word (slice_index h n))

long : (h : List ℕ) (n : ℕ) → length (digest_bytes h n) ≡ 4 * n
unfolding digest_bytes
long h zero = refl
long h (suc n) = let two = length-append (digest_bytes h n) (to_be_bytes w32 (slice_index h n)) in let rest = long h n in let four = word-long (slice_index h n) in omega (arith, two, rest, four)

pub name-is : (b : List ℕ) → IsName (name_of b)
unfolding sha1
name-is b = let h = hash_after (padded_message b) (length (padded_message b) / 64) in (long h 5, words h 5)
