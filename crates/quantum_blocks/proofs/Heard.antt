-- What a buffer source plays in a quantum, by whether it is heard there.
use Rattle.std.proofs.Common.{ℕ, zero, suc, ℤ, pos, ◌≡◌, ◌+◌, ◌*◌, ◌<◌, ◌≤◌, List, [], length, drop, Bool, true, false, Option, Some, None, inl, inr, refl, sym, ◌∙◌, ap, subst, arith}
use Rattle.std.specs.Prelude.{if◌then◌else◌, option_map, option_and_then, slice_get, IsSome, IfSome, unwrap_or}
use Rattle.std.specs.List.{range_with_len}
use Rattle.std.specs.Option.{option_map_or}
use Rattle.std.proofs.lemmas.List.{length-drop, length-take-le}
use Rattle.std.proofs.lemmas.Option.{get_or_from_slice_get}
use Rattle.std.proofs.Math.Nat.{mul-le-mul_right}
use Rattle.wa_base.specs.Contexts.{quantum_of}
use Rattle.wa_base.specs.declared.graph_names.BufId.{BufId}
use Rattle.law_base.specs.Members.{IsIn}
use Rattle.law_base.proofs.Members.{list_any-IsIn}
use Rattle.buffer_store.specs.declared.buffers.Buffer.{Buffer}
use Rattle.buffer_store.specs.Buffers.{channel_of, channel_at, IsBuffer, AreBuffers}
use Rattle.sched_source.specs.declared.content.Content.{Content}
use Rattle.sched_source.specs.Schedule.{Schedule, plays_at, plays_in, sample_at, played}
use Rattle.sched_source.proofs.Spans.{plays_in_not_started}
use Rattle.node_table.specs.declared.rows.Plays.{Plays}
use Rattle.node_table.specs.declared.rows.Plays.TheVariants as played
use Rattle.meaning.specs.declared.scheds.Play.{Play}
use Rattle.meaning.specs.declared.world.World.{World}
use Rattle.meaning.specs.World.{find_play, frames_in, channels_in, samples_in, played_at, played_channels}
use Rattle.meaning.specs.Validity.{IsPlay}
use Rattle.meaning.specs.Sources.{IsBufferOf}
use Rattle.quantum_blocks.specs.Heard.{SourceView, IsHeard, heard_of, heard_source}

in_range : (first count m : ℕ) → m < count → IsIn (first + m) (range_with_len first count)
in_range first zero m l = absurd (omega arith)
in_range first (suc count) zero l = inl (omega arith)
in_range first (suc count) (suc m) l = inr (subst (λ k. IsIn k (range_with_len (first + 1) count)) (omega arith) (in_range (first + 1) count m (omega arith)))

-- where a source sounds at no frame of a run, it does not sound at one
quiet_at : (sched : Schedule) (first count m : ℕ) → plays_in count sched first ≡ false → m < count → plays_at sched (first + m) ≡ false
unfolding plays_in
quiet_at sched first count m quiet l = by_test (plays_at sched (first + m)) refl
  where
    by_test : (b : Bool) → plays_at sched (first + m) ≡ b → b ≡ false
    by_test true sounds = let any = list_any-IsIn (plays_at sched) (range_with_len first count) (first + m) (in_range first count m l) sounds in absurd cc
    by_test false sounds = refl

-- without samples nothing is heard
no_sample : (content : Option Content) (start : Option ℕ) (f : ℕ) → sample_at content start [] f ≡ pos 0
no_sample (Some content) (Some start) f = refl
no_sample (Some content) None f = refl
no_sample None start f = refl

no_samples : (b : Bool) (sched : Schedule) (f : ℕ) → (if b then sample_at sched.content sched.start [] f else pos 0) ≡ pos 0
no_samples true sched f = no_sample sched.content sched.start f
no_samples false sched f = refl

module _ (w : World) (node first : ℕ) where
  -- the number of channels is that of the source that is heard
  pub heard_channels : played_channels w node (quantum_of w.spec) first ≡ option_map_or (λ (s : SourceView). channels_in s.store (Some s.buffer)) (heard_source w node first) 1
  heard_channels = by_play (find_play w.scheds.items node)
    where
      by_sound : (p : Play) (b : Bool) (source : Option BufId) → (if b then channels_in w.store source else 1)
          ≡ option_map_or (λ (s : SourceView). channels_in s.store (Some s.buffer)) (if b then option_map {T = BufId} (λ x. let s : SourceView = record { sched = p.sched; store = w.store; buffer = x } in s) source else None) 1
      by_sound p true None = refl
      by_sound p true (Some x) = refl
      by_sound p false source = refl

      by_play : (o : Option Play) → option_map_or (λ (p : Play). if plays_in (quantum_of w.spec) p.sched first then channels_in w.store p.buffer else 1) o 1
          ≡ option_map_or (λ (s : SourceView). channels_in s.store (Some s.buffer)) (option_and_then (heard_of w first) o) 1
      by_play None = refl
      by_play (Some p) = by_sound p (plays_in (quantum_of w.spec) p.sched first) p.buffer

  -- one that is not heard is silent
  pub unheard : heard_source w node first ≡ None → (c m : ℕ) → m < quantum_of w.spec → played_at w node c (first + m) ≡ pos 0
  unheard none c m now = by_play (find_play w.scheds.items node) none
    where
      by_buffer : (p : Play) (source : Option BufId) → option_map {T = BufId} (λ x. let s : SourceView = record { sched = p.sched; store = w.store; buffer = x } in s) source ≡ None → (b : Bool)
          → (if b then sample_at p.sched.content p.sched.start (samples_in w.store source c) (first + m) else pos 0) ≡ pos 0
      by_buffer p None is b = no_samples b p.sched (first + m)
      by_buffer p (Some x) is b = absurd cc

      by_sound : (p : Play) (b : Bool) → plays_in (quantum_of w.spec) p.sched first ≡ b → (if b then option_map {T = BufId} (λ x. let s : SourceView = record { sched = p.sched; store = w.store; buffer = x } in s) p.buffer else None) ≡ None
          → played p.sched (samples_in w.store p.buffer c) (first + m) ≡ pos 0
      by_sound p true sounds is = by_buffer p p.buffer is (plays_at p.sched (first + m))
      by_sound p false sounds is = ap (λ b. if b then sample_at p.sched.content p.sched.start (samples_in w.store p.buffer c) (first + m) else pos 0) (quiet_at p.sched first (quantum_of w.spec) m sounds now)

      by_play : (o : Option Play) → option_and_then (heard_of w first) o ≡ None → option_map_or (λ (p : Play). played p.sched (samples_in w.store p.buffer c) (first + m)) o (pos 0) ≡ pos 0
      by_play None is = refl
      by_play (Some p) is = by_sound p (plays_in (quantum_of w.spec) p.sched first) refl is

  -- and one that is heard plays its buffer
  pub heard : (s : SourceView) → heard_source w node first ≡ Some s → (c f : ℕ) → played_at w node c f ≡ played s.sched (samples_in s.store (Some s.buffer) c) f
  heard s is c f = by_play (find_play w.scheds.items node) is
    where
      by_buffer : (p : Play) (source : Option BufId) → option_map {T = BufId} (λ x. let v : SourceView = record { sched = p.sched; store = w.store; buffer = x } in v) source ≡ Some s
          → played p.sched (samples_in w.store source c) f ≡ played s.sched (samples_in s.store (Some s.buffer) c) f
      by_buffer p None is = absurd cc
      by_buffer p (Some x) is = ap (λ o. let v = unwrap_or o s in played v.sched (samples_in v.store (Some v.buffer) c) f) is

      by_sound : (p : Play) (b : Bool) → (if b then option_map {T = BufId} (λ x. let v : SourceView = record { sched = p.sched; store = w.store; buffer = x } in v) p.buffer else None) ≡ Some s
          → played p.sched (samples_in w.store p.buffer c) f ≡ played s.sched (samples_in s.store (Some s.buffer) c) f
      by_sound p true is = by_buffer p p.buffer is
      by_sound p false is = absurd cc

      by_play : (o : Option Play) → option_and_then (heard_of w first) o ≡ Some s
          → option_map_or (λ (p : Play). played p.sched (samples_in w.store p.buffer c) f) o (pos 0) ≡ played s.sched (samples_in s.store (Some s.buffer) c) f
      by_play None is = absurd cc
      by_play (Some p) is = by_sound p (plays_in (quantum_of w.spec) p.sched first) is

-- a source that sounds in a quantum was started
pub heard_started : (q : ℕ) (sched : Schedule) (first : ℕ) → plays_in q sched first ≡ true → IsSome sched.start
heard_started q sched first sounds = by_start sched.start refl
  where
    by_start : (o : Option ℕ) → sched.start ≡ o → IsSome o
    by_start None none = let quiet = plays_in_not_started q sched first none in absurd cc
    by_start (Some start) is = refl

-- its buffer is there, with the frames over which it was started
pub heard_is : (store : List Buffer) (plays : Option Plays) (p : Play) (b : BufId) → IsPlay store plays p → AreBuffers store → IsSome p.sched.start → p.buffer ≡ Some b → IsHeard p.sched store b
heard_is store None p b is are begun own = absurd is
heard_is store (Some played.Value) p b is are begun own = absurd (let none = sym is.buffer ∙ own in cc)
heard_is store (Some (played.Content rate)) p b is are begun own = record {
  buffers_are = are;
  there = subst (λ o. IsBufferOf store o) own is.there;
  length_of = subst (λ o. IfSome o (λ (x : Content). x.length ≡ frames_in store (Some b))) (sym is.plays) (is.length_of begun ∙ ap (frames_in store) own);
}

-- a channel of a buffer has the buffer's frames
channel_frames : (b : Buffer) (channel : ℕ) → IsBuffer b → channel < b.shape.channels → length (channel_of b channel) ≡ b.shape.frames
channel_frames b channel is low =
    let most = mul-le-mul_right b.shape.frames (let next : channel + 1 ≤ b.shape.channels = omega arith in next) in
    let long = is.samples in
    length-take-le b.shape.frames (drop (channel * b.shape.frames) b.samples) (let rest = length-drop (channel * b.shape.frames) b.samples in omega arith)

pub channel_long : (store : List Buffer) (i channel : ℕ) (xs : List ℤ) → AreBuffers store → i < length store → channel < channels_in store (Some (record { 0 = i })) → channel_at store i channel ≡ Some xs
    → length xs ≡ frames_in store (Some (record { 0 = i }))
channel_long store i channel xs are there low is = by_found (slice_get store i) refl low is
  where
    by_found : (o : Option Buffer) → slice_get store i ≡ o → channel < option_map_or (λ (b : Buffer). b.shape.channels) o 1 → option_map (λ (b : Buffer). channel_of b channel) o ≡ Some xs
        → length xs ≡ option_map_or (λ (b : Buffer). b.shape.frames) o 0
    by_found None found l none = absurd cc
    by_found (Some b) found l some =
        let own : IsBuffer b = subst IsBuffer (get_or_from_slice_get store i b b found) (are.each i b there) in
        ap (λ o. length (unwrap_or o xs)) (sym some) ∙ channel_frames b channel own l

-- the content of a source that is heard has as many frames as the channel that it plays
pub plays_all : (s : SourceView) → IsHeard s.sched s.store s.buffer → (channel : ℕ) (xs : List ℤ) → channel < channels_in s.store (Some s.buffer) → channel_at s.store s.buffer.0 channel ≡ Some xs
    → IfSome s.sched.content (λ (content : Content). content.length ≡ length xs)
plays_all s is channel xs low found =
    by_content s.sched.content is.length_of
  where
    by_content : (o : Option Content) → IfSome o (λ (content : Content). content.length ≡ frames_in s.store (Some s.buffer)) → IfSome o (λ (content : Content). content.length ≡ length xs)
    by_content None h = tt
    by_content (Some content) h = h ∙ sym (channel_long s.store s.buffer.0 channel xs is.buffers_are is.there low found)
