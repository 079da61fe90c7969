-- Buffers that are the same but for being frozen.
use Rattle.std.proofs.Common.{ℕ, zero, suc, ◌≡◌, length, List, [], ◌∷◌, ◌++◌, Bool, true, false, not, Option, Some, None, refl, sym, ◌∙◌, ap, subst, arith}
use Rattle.std.specs.Prelude.{slice_get, nat_lt, if◌then◌else◌, option_and_then, option_map, ℤ}
use Rattle.std.specs.Option.{option_map_or}
use Rattle.std.specs.List.{AllZip}
use Rattle.std.proofs.lemmas.List.Sums.{sum_by-cons}
use Rattle.wa_base.specs.declared.exceptions.Exc.TheVariants.{NotSupported, IndexSize}
use Rattle.wa_base.specs.declared.features.Feature.TheVariants.{BufferAcquired}
use Rattle.wa_base.specs.declared.graph_names.BufId.{BufId}
use Rattle.buffer_store.specs.declared.buffers.Buffer.{Buffer as AudioBuffer}
use Rattle.buffer_store.specs.Buffers.{frozen, with_written, changed_at, total_of, refusal_at, write_refusal}
use Rattle.meaning.specs.World.{of_buffer}
use Rattle.meaning.specs.Plays.{frozen_in}
use Rattle.prune.specs.Parts.{thawed}
use Rattle.prune.proofs.Without.{IsLessFrozen}

-- one store as another one, of which maybe more buffers are frozen
abbrev pub AreLessFrozen : List AudioBuffer → List AudioBuffer → Type 0
AreLessFrozen xs ys = AllZip IsLessFrozen xs ys

pub as_many : (xs ys : List AudioBuffer) → AreLessFrozen xs ys → length xs ≡ length ys
as_many [] [] are = refl
as_many [] (y ∷ ys) are = absurd are
as_many (x ∷ xs) [] are = absurd are
as_many (x ∷ xs) (y ∷ ys) are = ap suc (as_many xs ys are.1)

pub one_more : (xs ys : List AudioBuffer) (b : AudioBuffer) → AreLessFrozen xs ys → AreLessFrozen (xs ++ b ∷ []) (ys ++ b ∷ [])
one_more [] [] b are = (record { same = refl; frozen = λ is. is }, tt)
one_more [] (y ∷ ys) b are = absurd are
one_more (x ∷ xs) [] b are = absurd are
one_more (x ∷ xs) (y ∷ ys) b are = (are.0, one_more xs ys b are.1)

-- ---- what is asked of a buffer

-- what does not hang on its being frozen
module _ {Z : Type 0} (f : AudioBuffer → Z) (none : Z) (same : (b : AudioBuffer) → f b ≡ f (thawed b)) where
  same_at : (xs ys : List AudioBuffer) (i : ℕ) → AreLessFrozen xs ys → option_map_or f (slice_get xs i) none ≡ option_map_or f (slice_get ys i) none
  same_at [] [] i are = refl
  same_at [] (y ∷ ys) i are = absurd are
  same_at (x ∷ xs) [] i are = absurd are
  same_at (x ∷ xs) (y ∷ ys) zero are = same x ∙ ap f are.0.same ∙ sym (same y)
  same_at (x ∷ xs) (y ∷ ys) (suc i) are = same_at xs ys i are.1

  pub same_of_buffer : (xs ys : List AudioBuffer) (buffer : Option BufId) → AreLessFrozen xs ys → of_buffer f none xs buffer ≡ of_buffer f none ys buffer
  same_of_buffer xs ys None are = refl
  same_of_buffer xs ys (Some b) are = same_at xs ys b.0 are

-- a buffer as it is where it is not frozen
same_thawed_at : (xs ys : List AudioBuffer) (i : ℕ) → AreLessFrozen xs ys → option_map thawed (slice_get xs i) ≡ option_map thawed (slice_get ys i)
same_thawed_at [] [] i are = refl
same_thawed_at [] (y ∷ ys) i are = absurd are
same_thawed_at (x ∷ xs) [] i are = absurd are
same_thawed_at (x ∷ xs) (y ∷ ys) zero are = ap Some are.0.same
same_thawed_at (x ∷ xs) (y ∷ ys) (suc i) are = same_thawed_at xs ys i are.1

pub same_thawed : (xs ys : List AudioBuffer) (buffer : Option BufId) → AreLessFrozen xs ys
    → option_map thawed (option_and_then (λ b. slice_get xs b.0) buffer) ≡ option_map thawed (option_and_then (λ b. slice_get ys b.0) buffer)
same_thawed xs ys None are = refl
same_thawed xs ys (Some b) are = same_thawed_at xs ys b.0 are

-- how many samples they have together
pub same_total : (xs ys : List AudioBuffer) → AreLessFrozen xs ys → total_of xs ≡ total_of ys
same_total [] [] are = refl
same_total [] (y ∷ ys) are = absurd are
same_total (x ∷ xs) [] are = absurd are
same_total (x ∷ xs) (y ∷ ys) are =
    let one : length x.samples ≡ length y.samples = ap (λ (b : AudioBuffer). length b.samples) are.0.same in
    omega (arith, one, same_total xs ys are.1, sum_by-cons (λ (b : AudioBuffer). length b.samples) x xs, sum_by-cons (λ (b : AudioBuffer). length b.samples) y ys)

-- ---- one buffer is changed

changed_both : (change : AudioBuffer → AudioBuffer) → ((x y : AudioBuffer) → IsLessFrozen x y → IsLessFrozen (change x) (change y)) → (i : ℕ) (xs ys : List AudioBuffer)
    → AreLessFrozen xs ys → AreLessFrozen (changed_at i change xs) (changed_at i change ys)
changed_both change keeps i [] [] are = are
changed_both change keeps i [] (y ∷ ys) are = absurd are
changed_both change keeps i (x ∷ xs) [] are = absurd are
changed_both change keeps zero (x ∷ xs) (y ∷ ys) are = (keeps x y are.0, are.1)
changed_both change keeps (suc i) (x ∷ xs) (y ∷ ys) are = (are.0, changed_both change keeps i xs ys are.1)

frozen_second : (i : ℕ) (xs ys : List AudioBuffer) → AreLessFrozen xs ys → AreLessFrozen xs (changed_at i frozen ys)
frozen_second i [] [] are = are
frozen_second i [] (y ∷ ys) are = absurd are
frozen_second i (x ∷ xs) [] are = absurd are
frozen_second zero (x ∷ xs) (y ∷ ys) are = (record { same = are.0.same; frozen = λ is. refl }, are.1)
frozen_second (suc i) (x ∷ xs) (y ∷ ys) are = (are.0, frozen_second i xs ys are.1)

-- one that is acquired in both, and one that is acquired in the second alone
pub frozen_both : (xs ys : List AudioBuffer) (buffer : Option BufId) → AreLessFrozen xs ys → AreLessFrozen (frozen_in xs buffer) (frozen_in ys buffer)
frozen_both xs ys None are = are
frozen_both xs ys (Some b) are = changed_both frozen (λ x y is. record { same = is.same; frozen = λ t. refl }) b.0 xs ys are

pub frozen_other : (xs ys : List AudioBuffer) (buffer : Option BufId) → AreLessFrozen xs ys → AreLessFrozen xs (frozen_in ys buffer)
frozen_other xs ys None are = are
frozen_other xs ys (Some b) are = frozen_second b.0 xs ys are

written_one : (channel : ℕ) (samples : List ℤ) (first : ℕ) (x y : AudioBuffer) → IsLessFrozen x y → IsLessFrozen (with_written channel samples first x) (with_written channel samples first y)
unfolding with_written
written_one channel samples first x y is = record { same = ap (with_written channel samples first) is.same; frozen = is.frozen }

pub written_both : (i channel : ℕ) (samples : List ℤ) (first : ℕ) (xs ys : List AudioBuffer) → AreLessFrozen xs ys
    → AreLessFrozen (changed_at i (with_written channel samples first) xs) (changed_at i (with_written channel samples first) ys)
written_both i channel samples first xs ys are = changed_both (with_written channel samples first) (written_one channel samples first) i xs ys are

-- ---- a buffer that may be written in the second may be written in the first

write_fine : (channel : ℕ) (x y : AudioBuffer) → IsLessFrozen x y → write_refusal channel y ≡ None → write_refusal channel x ≡ None
write_fine channel x y is fine =
    by_tests (nat_lt channel x.shape.channels) x.shape.frozen y.shape.frozen is.frozen (subst (λ n. (if not (nat_lt channel n) then Some IndexSize else if y.shape.frozen then Some (NotSupported (Some BufferAcquired)) else None) ≡ None) (sym channels) fine)
  where
    channels : x.shape.channels ≡ y.shape.channels
    channels = ap (λ (b : AudioBuffer). b.shape.channels) is.same

    by_tests : (there a b : Bool) → (a ≡ true → b ≡ true) → (if not there then Some IndexSize else if b then Some (NotSupported (Some BufferAcquired)) else None) ≡ None
        → (if not there then Some IndexSize else if a then Some (NotSupported (Some BufferAcquired)) else None) ≡ None
    by_tests false a b less none = absurd cc
    by_tests true false b less none = refl
    by_tests true true true less none = absurd cc
    by_tests true true false less none = absurd (let t = less refl in cc)

pub may_be_written : (i channel : ℕ) (xs ys : List AudioBuffer) → AreLessFrozen xs ys → refusal_at ys i (write_refusal channel) ≡ None → refusal_at xs i (write_refusal channel) ≡ None
may_be_written i channel [] [] are fine = refl
may_be_written i channel [] (y ∷ ys) are fine = absurd are
may_be_written i channel (x ∷ xs) [] are fine = absurd are
may_be_written zero channel (x ∷ xs) (y ∷ ys) are fine = write_fine channel x y are.0 fine
may_be_written (suc i) channel (x ∷ xs) (y ∷ ys) are fine = may_be_written i channel xs ys are.1 fine
