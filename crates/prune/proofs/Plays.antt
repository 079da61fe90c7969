-- Sources and parameters of a part do what they do in the whole.
use Rattle.std.proofs.Common.{ℕ, pos, ◌≡◌, ◌<◌, length, List, [], false, Option, Some, None, option_map, option_and_then, slice_get, refl, sym, ◌∙◌, ap}
use Rattle.std.specs.Prelude.{if◌then◌else◌}
use Rattle.std.specs.Option.{option_map_or}
use Rattle.wa_base.specs.declared.graph_names.BufId.{BufId}
use Rattle.wa_base.specs.declared.graph_names.ParamName.{ParamName}
use Rattle.wa_base.specs.declared.graph_names.Rate.{Rate}
use Rattle.param_events.specs.Timeline.{Timeline}
use Rattle.param_events.specs.Values.{value_at}
use Rattle.sched_source.specs.Schedule.{plays_at, plays_in, played}
use Rattle.buffer_store.specs.declared.buffers.Buffer.{Buffer as AudioBuffer}
use Rattle.buffer_store.specs.Buffers.{channel_of}
use Rattle.meaning.specs.declared.world.World.{World}
use Rattle.meaning.specs.declared.params.Param.{Param}
use Rattle.meaning.specs.declared.scheds.Play.{Play}
use Rattle.meaning.specs.World.{is_k, param_id, find_param, find_play, intrinsic_value, is_k_rate, channels_in, samples_in, of_buffer, sounds_at, played_at, played_channels}
use Rattle.prune.specs.Parts.{Numbering, thawed, Performance, performance_of, IsPartOf}

-- what is said of an item by what it has
by_part : {X Y Z : Type 0} (f : X → Y) (g : X → Z) (h : Y → Z) (none : Z) → ((x : X) → g x ≡ h (f x)) → (o : Option X) → option_map_or g o none ≡ option_map_or h (option_map f o) none
by_part f g h none each None = refl
by_part f g h none each (Some x) = each x

-- what sounds of a buffer of the store, be it frozen or not
thawed_sounds : {Z : Type 0} (f : AudioBuffer → Z) (none : Z) → ((b : AudioBuffer) → f b ≡ f (thawed b)) → (store : List AudioBuffer) (buffer : Option BufId)
    → of_buffer f none store buffer ≡ option_map_or f (option_map thawed (option_and_then (λ b. slice_get store b.0) buffer)) none
thawed_sounds f none same store buffer = by_part thawed f f none same (option_and_then (λ b. slice_get store b.0) buffer)

module _ (r : Numbering) (part whole : World) (is : IsPartOf r part whole) (n : ℕ) (l : n < length part.nodes) where
  -- what is said of a source by what it plays
  same_played : {Z : Type 0} (none : Z) (g : World → Play → Z) (h : Performance → Z) → ((w : World) (p : Play) → g w p ≡ h (performance_of w.store p))
      → option_map_or (g part) (find_play part.scheds.items n) none ≡ option_map_or (g whole) (find_play whole.scheds.items (r n)) none
  same_played none g h each =
      by_part (performance_of part.store) (g part) h none (each part) (find_play part.scheds.items n)
      ∙ ap (λ (o : Option Performance). option_map_or h o none) (is.plays n l)
      ∙ sym (by_part (performance_of whole.store) (g whole) h none (each whole) (find_play whole.scheds.items (r n)))

  pub same_sounds : (frame : ℕ) → sounds_at part n frame ≡ sounds_at whole (r n) frame
  same_sounds frame = same_played false (λ w p. plays_at p.sched frame) (λ x. plays_at x.sched frame) (λ w p. refl)

  pub same_samples : (c frame : ℕ) → played_at part n c frame ≡ played_at whole (r n) c frame
  same_samples c frame = same_played (pos 0)
      (λ w p. played p.sched (samples_in w.store p.buffer c) frame)
      (λ x. played x.sched (option_map_or (λ b. channel_of b c) x.buffer []) frame)
      (λ w p. ap (λ xs. played p.sched xs frame) (thawed_sounds (λ b. channel_of b c) [] (λ b. refl) w.store p.buffer))

  pub same_played_channels : (count first : ℕ) → played_channels part n count first ≡ played_channels whole (r n) count first
  unfolding plays_in
  same_played_channels count first = same_played 1
      (λ w p. if plays_in count p.sched first then channels_in w.store p.buffer else 1)
      (λ x. if plays_in count x.sched first then option_map_or (λ b. b.shape.channels) x.buffer 1 else 1)
      (λ w p. ap (λ k. if plays_in count p.sched first then k else 1) (thawed_sounds (λ b. b.shape.channels) 1 (λ b. refl) w.store p.buffer))

  -- ---- parameters

  pub same_intrinsic : (name : ParamName) (frame : ℕ) → intrinsic_value part (param_id n name) frame ≡ intrinsic_value whole (param_id (r n) name) frame
  same_intrinsic name frame =
      by_part (λ (p : Param). p.line) (λ p. value_at p.line.base p.line.events frame) (λ (t : Timeline). value_at t.base t.events frame) (pos 0) (λ p. refl) (find_param part.params.items (param_id n name))
      ∙ ap (λ o. option_map_or (λ (t : Timeline). value_at t.base t.events frame) o (pos 0)) (is.lines n name l)
      ∙ sym (by_part (λ (p : Param). p.line) (λ p. value_at p.line.base p.line.events frame) (λ (t : Timeline). value_at t.base t.events frame) (pos 0) (λ p. refl) (find_param whole.params.items (param_id (r n) name)))

  pub same_rate : (name : ParamName) → is_k_rate part (param_id n name) ≡ is_k_rate whole (param_id (r n) name)
  same_rate name =
      by_part (λ (p : Param). p.rate) (λ p. is_k p.rate) is_k false (λ p. refl) (find_param part.params.items (param_id n name))
      ∙ ap (λ (o : Option Rate). option_map_or is_k o false) (is.rates n name l)
      ∙ sym (by_part (λ (p : Param). p.rate) (λ p. is_k p.rate) is_k false (λ p. refl) (find_param whole.params.items (param_id (r n) name)))
