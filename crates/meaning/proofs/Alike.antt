-- Tapes whose worlds sound alike.
use Rattle.std.proofs.Common.{ℕ, ◌≡◌, ◌/◌, ◌<◌, List, map, sym, ◌∙◌, ap}
use Rattle.std.specs.Prelude.{if◌then◌else◌, nat_lt}
use mathlib.Core.Path.{fun_ext}
use Rattle.wa_base.specs.declared.graph_names.ParamId.{ParamId}
use Rattle.meaning.specs.declared.world.World.{World}
use Rattle.meaning.specs.World.{sounding}
use Rattle.meaning.specs.Counts.{world_in, count}
use Rattle.meaning.specs.Values.{Frame, no_frame, computed_value, value, frame, frames_before, param_value}
use Rattle.meaning.proofs.Sounding.{world_sounding}
use Rattle.meaning.proofs.TapeLaws.{count_same, value_same}

module _ (q : ℕ) (tape tape' : List World) (same : map sounding tape ≡ map sounding tape') where
  pub world_alike : (k : ℕ) → world_in tape k ≡ world_in tape' k
  world_alike k = sym (world_sounding tape k) ∙ ap (λ (worlds : List World). world_in worlds k) same ∙ world_sounding tape' k

  pub counts_alike : (j : ℕ) → count q tape j ≡ count q tape' j
  counts_alike j = count_same q tape tape' j (λ k l. world_alike k)

module _ (q : ℕ) (some : 0 < q) (tape tape' : List World) (same : map sounding tape ≡ map sounding tape') where
  pub value_alike : (f : ℕ) → value q tape f ≡ value q tape' f
  value_alike f = value_same q some tape tape' f (λ k l. world_alike q tape tape' same k)

  pub frame_alike : (f : ℕ) → frame q tape f ≡ frame q tape' f
  frame_alike f =
      let world = world_alike q tape tape' same (f / q) in
      let counts = counts_alike q tape tape' same (f / q) in
      let values = value_alike f in
      λ i. record { world = world i; counts = counts i; values = values i }

  pub param_alike : (f : ℕ) (id : ParamId) → param_value q tape f id ≡ param_value q tape' f id
  param_alike f id =
      ap (λ past. computed_value q f past (frame q tape f) id) (fun_ext (λ g. ap (λ (x : Frame). if nat_lt g f then x else no_frame) (frame_alike g)))
      ∙ ap (λ here. computed_value q f (frames_before q tape' f) here id) (frame_alike f)
