-- Histories recall what was heard.
use Rattle.std.proofs.Common.{ℕ, ℤ, pos, zero, suc, ◌≡◌, ◌+◌, ◌<◌, ◌≤◌, ◌-ℤ◌, List, [], ◌∷◌, length, drop, ap₂, sym, refl, ◌∙◌, arith}
use Rattle.std.proofs.lemmas.List.{get_or-take, get_or-replicate}
use Rattle.node_table.specs.Filters.{IsFilter, quotient, next_output, filtered, filter_value}
use Rattle.node_table.specs.Frames.{item, newest, heard}
use Rattle.node_table.proofs.Sums.{dot_same, next_is_zero}
use Rattle.shaper_iir.specs.declared.histories.History.{History}
use Rattle.shaper_iir.specs.Histories.{Recalls, StandsFor, silent, in_front, next_history, after}

length_drop_one : (xs : List ℤ) → length xs ≤ 20 → length (drop 1 xs) ≤ 19
length_drop_one [] l = omega arith
length_drop_one (x ∷ xs) l = omega arith

-- an item in front of the newest ones is in front of all
pub recalls_more : (kept all : List ℤ) (x y : ℤ) → x ≡ y → Recalls kept all → Recalls (in_front x kept) (y ∷ all)
recalls_more kept all x y same recall zero l = same
recalls_more kept all x y same recall (suc i) l = get_or-take 19 kept i (pos 0) (omega arith) ∙ recall i (omega arith)

-- the next output rests on the newest items alone
pub output_same : (forward back inputs outputs xs ys : List ℤ) → IsFilter forward back → Recalls inputs xs → Recalls outputs ys
    → next_output forward back inputs outputs ≡ next_output forward back xs ys
output_same forward back inputs outputs xs ys filter ins outs =
    let most = filter.forward_most in
    let rest = length_drop_one back filter.back_most in
    ap₂ (λ a b. quotient (a -ℤ b) (item back 0))
    (dot_same forward inputs xs (λ i l. ins i (omega arith)))
    (dot_same (drop 1 back) outputs ys (λ i l. outs i (omega arith)))

-- one frame more
pub next_stands : (forward back : List ℤ) (history : History) (x : ℤ) (frames : List ℤ) → IsFilter forward back
    → StandsFor forward back history frames → StandsFor forward back (next_history forward back history x) (x ∷ frames)
next_stands forward back history x frames filter stands =
    let ins = recalls_more history.inputs frames x x refl stands.inputs in
    record {
      inputs = ins;
      outputs = recalls_more history.outputs (filtered forward back frames) _ _
          (output_same forward back (in_front x history.inputs) history.outputs (x ∷ frames) (filtered forward back frames) filter ins stands.outputs) stands.outputs;
    }

-- a block more
pub after_stands : (forward back : List ℤ) (history : History) (block : List ℤ) (start n : ℕ) (frames : List ℤ) → IsFilter forward back
    → StandsFor forward back history frames → StandsFor forward back (after forward back history block start n) (heard block start n frames)
after_stands forward back history block start zero frames filter stands = stands
after_stands forward back history block start (suc n) frames filter stands =
    next_stands forward back _ (item block (start + n)) _ filter (after_stands forward back history block start n frames filter stands)

-- the newest output is the filter's value
pub newest_is : (forward back : List ℤ) (history : History) (frames : List ℤ) → StandsFor forward back history frames
    → newest history.outputs ≡ filter_value forward back frames
newest_is forward back history frames stands = stands.outputs 0 (omega arith)

-- ---- silence

silent_item : (i : ℕ) → i < 20 → item silent.inputs i ≡ pos 0
silent_item i l = get_or-replicate 20 i (pos 0) (pos 0) l

-- a filter at its birth
pub born_stands : (forward back : List ℤ) → StandsFor forward back silent []
born_stands forward back = record { inputs = λ i l. silent_item i l; outputs = λ i l. silent_item i l }

zero_in_front : (all : List ℤ) (x : ℤ) → x ≡ pos 0 → Recalls silent.inputs all → Recalls silent.inputs (x ∷ all)
zero_in_front all x none recall zero l = sym none
zero_in_front all x none recall (suc i) l = silent_item (suc i) l ∙ sym (silent_item i (omega arith)) ∙ recall i (omega arith)

-- a silent channel that hears 0 stays silent
pub silent_stands : (forward back : List ℤ) (x : ℤ) (frames : List ℤ) → IsFilter forward back → x ≡ pos 0
    → StandsFor forward back silent frames → StandsFor forward back silent (x ∷ frames)
silent_stands forward back x frames filter none stands =
    let ins : Recalls silent.inputs (x ∷ frames) = zero_in_front frames x none stands.inputs in
    let most = filter.forward_most in
    let rest = length_drop_one back filter.back_most in
    record {
      inputs = ins;
      outputs = zero_in_front (filtered forward back frames) _
          (next_is_zero forward back (x ∷ frames) (filtered forward back frames)
          (λ i l. sym (ins i (omega arith)) ∙ silent_item i (omega arith))
          (λ i l. sym (stands.outputs i (omega arith)) ∙ silent_item i (omega arith))) stands.outputs;
    }

pub silent_block_stands : (forward back : List ℤ) (block : List ℤ) (start n : ℕ) (frames : List ℤ) → IsFilter forward back
    → ((k : ℕ) → item block (start + k) ≡ pos 0)
    → StandsFor forward back silent frames → StandsFor forward back silent (heard block start n frames)
silent_block_stands forward back block start zero frames filter none stands = stands
silent_block_stands forward back block start (suc n) frames filter none stands =
    silent_stands forward back (item block (start + n)) (heard block start n frames) filter (none n) (silent_block_stands forward back block start n frames filter none stands)
