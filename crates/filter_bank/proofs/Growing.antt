-- What nodes remember that is as it was, but for its room.
use Rattle.std.proofs.Common.{pos, replicate, ℕ, ◌≡◌, slice_index_or, Option, Some, None, inl, inr, refl, ◌∙◌, arith}
use Rattle.std.proofs.lemmas.Bool.{cases_lt}
use Rattle.std.proofs.lemmas.List.{get_or_past, get_or-replicate, length-replicate}
use Rattle.filter_bank.specs.Heard.{HeardView}
use Rattle.filter_bank.specs.Banks.{IsSameIfThere}

pub same_refl : (f : Option HeardView) → IsSameIfThere f f
same_refl None = tt
same_refl (Some f) = record { birth = refl; time = refl; outputs = λ frames. refl; stands_on = λ c xs is. is; stood = λ c xs is. is }

pub same_after : (f g h : Option HeardView) → IsSameIfThere f g → IsSameIfThere g h → IsSameIfThere f h
same_after None None None a b = tt
same_after None None (Some h) a b = absurd b
same_after None (Some g) h a b = absurd a
same_after (Some f) None h a b = absurd a
same_after (Some f) (Some g) None a b = absurd b
same_after (Some f) (Some g) (Some h) a b = record {
  birth = b.birth ∙ a.birth;
  time = b.time ∙ a.time;
  outputs = λ frames. b.outputs frames ∙ a.outputs frames;
  stands_on = λ c xs is. b.stands_on c xs (a.stands_on c xs is);
  stood = λ c xs is. a.stood c xs (b.stood c xs is);
}

-- zeros, and nothing past them
pub zeros_at : (n k : ℕ) → slice_index_or (replicate n (pos 0)) k (pos 0) ≡ pos 0
zeros_at n k = elim (cases_lt k n) [
  | inl low ↦ get_or-replicate n k (pos 0) (pos 0) low
  | inr past ↦ get_or_past (replicate n (pos 0)) k (pos 0) (omega (arith, length-replicate n (pos 0)))
]
