-- What a delay keeps, once more is written, and what is read of it.
use Rattle.std.proofs.Common.{ℕ, suc, ℤ, pos, ◌≡◌, ◌+◌, ◌-◌, ◌*◌, ◌/◌, ◌<◌, ◌≤◌, max, length, List, [], ◌∷◌, Bool, true, false, All, refl, sym, ◌∙◌, ap, arith, subst, inl, inr}
use Rattle.std.specs.Prelude.{nat_lt, nat_le, ◌&&◌, if◌then◌else◌}
use Rattle.std.specs.List.{list_all}
use Rattle.std.proofs.lemmas.Bool.{and_parts, and_from}
use Rattle.std.proofs.lemmas.List.Sums.{AllPass-from_list_all}
use Rattle.std.proofs.lemmas.Bool.Decides.{nat_tests}
use Rattle.std.proofs.Math.Nat.{add-mul-div_right, mul-add-div}
use Rattle.wa_base.specs.declared.graph_names.Interp.{Interp}
use Rattle.mix_rules.specs.Blocks.{sample}
use Rattle.mix_rules.specs.Counts.{greatest}
use Rattle.mix_rules.specs.Mixing.{mix}
use Rattle.delay_line.specs.Delays.{Writer, delayed}
use Rattle.delay_line.specs.Lines.{Line, count_at, Keeps, IsNext}
use Rattle.meaning.specs.Lists.{since}
use Rattle.delay_line.specs.Spans.{IsReached, heard_count, delay_at}
use Rattle.delay_bank.specs.Kept.{since_birth, Brings, IsNearest, between, read_back}

-- numbers that are no greater than one are no greater than a greater one
pub still_below : (low high : ℕ) → low ≤ high → (ns : List ℕ) → All (λ n. n ≤ low) ns → All (λ n. n ≤ high) ns
still_below low high l ns all k d there = let here = all k d there in omega arith

-- so many quanta after a quantum
pub quantum_after : (q : ℕ) → 0 < q → (born blocks : ℕ) → (born + blocks * q) / q ≡ born / q + blocks
quantum_after q some born blocks = add-mul-div_right born blocks some

-- the greatest count, with one more
pub greatest_with : (counts : ℕ → ℕ) (first blocks count : ℕ) → counts (first + blocks) ≡ count → (most : ℕ) → most ≡ greatest (since counts first blocks) → max most count ≡ greatest (since counts first (blocks + 1))
greatest_with counts first blocks count is most before =
    let longer : blocks + 1 ≡ suc blocks = omega arith in
    subst (λ n. max most count ≡ greatest (since counts first n)) (sym longer) (let e : max most count ≡ max (counts (first + blocks)) (greatest (since counts first blocks)) = omega (arith, is, before) in e)

-- what a writer brings in a quantum comes next
pub comes_next : (q : ℕ) → 0 < q → (line : Line) → line.block ≡ q → (born first channels : ℕ) (block : List ℤ) (writer : Writer) → first ≡ born + line.blocks * q → Brings q first channels block writer → IsNext line (since_birth q born writer) channels block
comes_next q some line frames born first channels block writer here brings = record {
  count = ap writer.counts (sym (quantum_after q some born line.blocks) ∙ ap (λ n. n / q) (sym here)) ∙ brings.count;
  frames = λ c k low now.
      ap (λ g. writer.frames g c) (let e : born + (line.blocks * line.block + k) ≡ first + k = ap (λ n. born + (line.blocks * n + k)) frames ∙ omega (arith, here) in e)
      ∙ brings.frames c k low (subst (λ n. k < n) frames now)
      ∙ ap (λ n. sample n block c k) (sym frames);
}

-- ---- reading

-- what is asked for is kept
pub is_reached : (q : ℕ) (line : Line) → line.block ≡ q → (born first least : ℕ) → born ≤ first → IsNearest q first (born + line.blocks * q) least
    → (d k : ℕ) → k < q → least ≤ d → d ≤ line.capacity → IsReached line (first - born + k) d
is_reached q line frames born first least lived near d k now low high old = elim near [
  | inl here ↦ let time = here.0 in (let e : first - born + k - d < line.blocks * line.block = rw frames (omega (arith, time, lived, now)) in e, let e : line.blocks * line.block ≤ first - born + k - d + (line.capacity + line.block) = rw frames (omega (arith, time, lived, now, high)) in e)
  | inr here ↦ let time = here.0 in let some = here.1 in (let e : first - born + k - d < line.blocks * line.block = rw frames (omega (arith, time, some, lived, now, low)) in e, let e : line.blocks * line.block ≤ first - born + k - d + (line.capacity + line.block) = rw frames (omega (arith, time, lived, now, high)) in e)
]

-- each delay is of so many frames
pub each_between : (least greatest_delay : ℕ) (delays : List ℕ) → list_all (between least greatest_delay) delays ≡ true → (k : ℕ) → k < length delays → (least ≤ delay_at delays k) × (delay_at delays k ≤ greatest_delay)
each_between least greatest_delay delays all k l =
    let here = and_parts (nat_le least (delay_at delays k)) (nat_le (delay_at delays k) greatest_delay) (AllPass-from_list_all (between least greatest_delay) delays all k 0 l) in
    let low : nat_le least (delay_at delays k) ≡ true = here.0 in
    let high : nat_le (delay_at delays k) greatest_delay ≡ true = here.1 in
    (grind (arith, nat_tests), grind (arith, nat_tests))

pub all_between : (least greatest_delay : ℕ) (delays : List ℕ) → ((k : ℕ) → k < length delays → (least ≤ delay_at delays k) × (delay_at delays k ≤ greatest_delay)) → list_all (between least greatest_delay) delays ≡ true
all_between least greatest_delay [] each = refl
all_between least greatest_delay (d ∷ ds) each =
    let here = each 0 (omega arith) in
    let low = here.0 in let high = here.1 in
    and_from _ _ (and_from _ _ (let e : nat_le least d ≡ true = grind (arith, nat_tests) in e) (let e : nat_le d greatest_delay ≡ true = grind (arith, nat_tests) in e)) (all_between least greatest_delay ds (λ k l. each (suc k) (omega arith)))

-- a quantum since birth, and one of the context
same_quantum : (q : ℕ) → 0 < q → (born first k d : ℕ) → born ≤ first → q * (born / q) ≡ born → born + d ≤ first + k → born / q + (first - born + k - d) / q ≡ (first + k - d) / q
same_quantum q some born first k d lived whole late =
    let sum : first + k - d ≡ q * (born / q) + (first - born + k - d) = omega (arith, whole, lived, late) in
    sym (ap (λ n. n / q) sum ∙ mul-add-div some (born / q) (first - born + k - d))

-- what is heard has no more channels than the reader
pub heard_few : (q : ℕ) → 0 < q → (line : Line) → line.block ≡ q → (born first : ℕ) → born ≤ first → q * (born / q) ≡ born → (writer : Writer) → Keeps line (since_birth q born writer) → (k d channels : ℕ) → IsReached line (first - born + k) d
    → (born + d ≤ first + k → writer.counts ((first + k - d) / q) ≤ channels) → heard_count line (first - born + k) d ≤ channels
heard_few q some line frames born first lived whole writer keeps k d channels reached few = by_test (nat_lt (first - born + k) d) refl
  where
    by_test : (b : Bool) → nat_lt (first - born + k) d ≡ b → (if b then 0 else count_at line ((first - born + k - d) / line.block)) ≤ channels
    by_test true t = omega arith
    by_test false t =
        let late : d ≤ first - born + k = grind (arith, nat_tests) in
        let born_by : born + d ≤ first + k = omega arith in
        subst (λ n. n ≤ channels) (sym (keeps.counts (first - born + k - d) (reached late) ∙ ap (λ b. writer.counts (born / q + (first - born + k - d) / b)) frames ∙ ap writer.counts (same_quantum q some born first k d lived whole born_by))) (few born_by)

-- what is read by frames since birth, and by those of the context
pub by_context : (q : ℕ) → 0 < q → (born first : ℕ) → born ≤ first → q * (born / q) ≡ born → (writer : Writer) (interp : Interp) (channels k d c : ℕ)
    → delayed q (since_birth q born writer) interp channels (first - born + k) d c ≡ read_back q born writer interp channels (first + k) d c
by_context q some born first lived whole writer interp channels k d c = by_test (nat_lt (first + k) (born + d)) refl
  where
    by_test : (b : Bool) → nat_lt (first + k) (born + d) ≡ b
        → (if nat_lt (first - born + k) d then pos 0 else mix interp (writer.counts (born / q + (first - born + k - d) / q)) channels (writer.frames (born + (first - born + k - d))) c)
        ≡ (if b then pos 0 else mix interp (writer.counts ((first + k - d) / q)) channels (writer.frames (first + k - d)) c)
    by_test true t =
        let early : first + k < born + d = grind (arith, nat_tests) in
        let e : nat_lt (first - born + k) d ≡ true = let l : first - born + k < d = omega arith in grind (arith, nat_tests) in rw e refl
    by_test false t =
        let late : born + d ≤ first + k = grind (arith, nat_tests) in
        let e : nat_lt (first - born + k) d ≡ false = let l : d ≤ first - born + k = omega arith in grind (arith, nat_tests) in
        let back : born + (first - born + k - d) ≡ first + k - d = omega arith in
        let g = first - born + k - d in
        let quantum = same_quantum q some born first k d lived whole late in
        rw e (ap (λ n. mix interp (writer.counts n) channels (writer.frames (born + g)) c) quantum ∙ ap (λ f. mix interp (writer.counts ((first + k - d) / q)) channels (writer.frames f) c) back)

-- numbers that are all the same pass a test where one does
all_pass : (p : ℕ → Bool) (xs : List ℕ) → ((k : ℕ) → k < length xs → p (delay_at xs k) ≡ true) → list_all p xs ≡ true
all_pass p [] each = refl
all_pass p (x ∷ xs) each = and_from _ _ (each 0 (omega arith)) (all_pass p xs (λ k l. each (suc k) (omega arith)))

pub all_alike : (p : ℕ → Bool) (xs : List ℕ) (x : ℕ) → 0 < length xs → ((k : ℕ) → k < length xs → delay_at xs k ≡ x) → list_all p xs ≡ p x
all_alike p [] x some same = absurd (omega arith)
all_alike p (y ∷ ys) x some same = by_test (p x) refl
  where
    by_test : (b : Bool) → p x ≡ b → list_all p (y ∷ ys) ≡ b
    by_test true t = all_pass p (y ∷ ys) (λ k l. ap p (same k l) ∙ t)
    by_test false t = ap (λ b. b && list_all p ys) (ap p (same 0 (omega arith)) ∙ t)
