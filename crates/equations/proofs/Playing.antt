-- What a source plays, by its schedule and its buffer.
use Rattle.std.proofs.Common.{ℕ, zero, suc, ℤ, pos, ◌≡◌, ◌+◌, ◌*◌, ◌<◌, ◌≤◌, List, [], ◌∷◌, length, take, drop, Bool, true, false, Option, Some, None, refl, sym, ◌∙◌, ap, subst, arith}
use Rattle.std.specs.Prelude.{if◌then◌else◌, option_map, slice_get, IsSome, IfSome, unwrap_or}
use Rattle.std.specs.Option.{option_map_or}
use Rattle.std.proofs.lemmas.List.{length-drop, length-take-le}
use Rattle.std.proofs.Math.Nat.{mul-le-mul_right}
use Rattle.wa_base.specs.declared.graph_names.BufId.{BufId}
use Rattle.buffer_store.specs.declared.buffers.Buffer.{Buffer as AudioBuffer}
use Rattle.buffer_store.specs.declared.buffers.Shape.{Shape}
use Rattle.buffer_store.specs.Buffers.{channel_of, channel_at, shape_at, HasChannel, IsBuffer, AreBuffers}
use Rattle.sched_source.specs.declared.content.Content.{Content}
use Rattle.sched_source.specs.Schedule.{Schedule, plays_at, end_frame, is_between, sample_at, played}
use Rattle.node_table.specs.declared.rows.Plays.{Plays}
use Rattle.node_table.specs.declared.rows.Plays.TheVariants as plays
use Rattle.meaning.specs.declared.scheds.Play.{Play}
use Rattle.meaning.specs.declared.world.World.{World}
use Rattle.meaning.specs.World.{sounding, find_play, frames_in, channels_in, samples_in, sounds_at, played_at}
use Rattle.meaning.specs.Validity.{IsPlay}
use Rattle.derivations.proofs.Filing.{got_at, got_low}

module _ (w : World) (node : ℕ) where
  abbrev sample_by : ℕ → ℕ → Option Play → ℤ
  sample_by c f o = option_map_or (λ p. played p.sched (samples_in w.store p.buffer c) f) o (pos 0)

  pub sample_some : (c f : ℕ) (p : Play) → find_play w.scheds.items node ≡ Some p → played p.sched (samples_in w.store p.buffer c) f ≡ played_at (sounding w) node c f
  sample_some c f p found = sym (ap (sample_by c f) found)

  pub sounds_by : (f : ℕ) (p : Play) → find_play w.scheds.items node ≡ Some p → sounds_at (sounding w) node f ≡ plays_at p.sched f
  sounds_by f p found = ap (λ (o : Option Play). option_map_or (λ p. plays_at p.sched f) o false) found

no_sample : (content : Option Content) (start : Option ℕ) (f : ℕ) → pos 0 ≡ sample_at content start [] f
no_sample (Some content) (Some start) f = refl
no_sample (Some content) None f = refl
no_sample None start f = refl

pub silent : (sched : Schedule) (samples : List ℤ) (f : ℕ) → samples ≡ [] → pos 0 ≡ played sched samples f
silent sched samples f none = by_test (plays_at sched f)
  where
    by_test : (b : Bool) → pos 0 ≡ (if b then sample_at sched.content sched.start samples f else pos 0)
    by_test true = no_sample sched.content sched.start f ∙ sym (ap (λ xs. sample_at sched.content sched.start xs f) none)
    by_test false = refl

pub quiet : (sched : Schedule) (samples : List ℤ) (f : ℕ) → plays_at sched f ≡ false → pos 0 ≡ played sched samples f
quiet sched samples f is = sym (ap (λ b. if b then sample_at sched.content sched.start samples f else pos 0) is)

-- the shape and a channel of a buffer, as they are looked up
pub channels_are : (store : List AudioBuffer) (b : BufId) (shape : Shape) → shape_at store b.0 ≡ Some shape → shape.channels ≡ channels_in store (Some b)
channels_are store b shape is = by_found (slice_get store b.0) is
  where
    by_found : (o : Option AudioBuffer) → option_map (λ (x : AudioBuffer). x.shape) o ≡ Some shape → shape.channels ≡ option_map_or (λ (x : AudioBuffer). x.shape.channels) o 1
    by_found None is = absurd cc
    by_found (Some x) is = ap (λ (o : Option Shape). (unwrap_or o shape).channels) (sym is)

-- ---- the buffer of a source

pub buffer_there : (store : List AudioBuffer) (kind : Option Plays) (p : Play) (b : BufId) → IsPlay store kind p → p.buffer ≡ Some b → b.0 < length store
buffer_there store None p b is some = absurd is
buffer_there store (Some plays.Value) p b is some = let none : p.buffer ≡ None = is.buffer in absurd cc
buffer_there store (Some (plays.Content rate)) p b is some = subst (λ (o : Option BufId). IfSome o (λ k. k.0 < length store)) some is.there

started : (sched : Schedule) (f : ℕ) → plays_at sched f ≡ true → IsSome sched.start
started sched f on = by_start sched.start (end_frame sched) on
  where
    by_start : (s e : Option ℕ) → is_between s e f ≡ true → IsSome s
    by_start None e h = absurd cc
    by_start (Some s) e h = refl

-- it plays as many frames as its buffer has
pub content_long : (store : List AudioBuffer) (kind : Option Plays) (p : Play) (b : BufId) (samples : List ℤ) (f : ℕ) → IsPlay store kind p → p.buffer ≡ Some b → plays_at p.sched f ≡ true
    → length samples ≡ frames_in store (Some b) → IfSome p.sched.content (λ content. content.length ≡ length samples)
content_long store None p b samples f is some on long = absurd is
content_long store (Some plays.Value) p b samples f is some on long = let none : p.buffer ≡ None = is.buffer in absurd cc
content_long store (Some (plays.Content rate)) p b samples f is some on long =
    subst (λ (o : Option Content). IfSome o (λ k. k.length ≡ length samples)) (sym is.plays) (is.length_of (started p.sched f on) ∙ ap (frames_in store) some ∙ sym long)

-- a channel has as many samples as its buffer has frames
channel_long : (y : AudioBuffer) (c : ℕ) → IsBuffer y → c < y.shape.channels → length (channel_of y c) ≡ y.shape.frames
channel_long y c is has =
    let more = mul-le-mul_right y.shape.frames (let l : c + 1 ≤ y.shape.channels = omega arith in l) in
    let whole = is.samples in
    length-take-le y.shape.frames (drop (c * y.shape.frames) y.samples) (omega (arith, length-drop (c * y.shape.frames) y.samples, more, whole))

drop_past : (k : ℕ) (xs : List ℤ) → length xs ≤ k → drop k xs ≡ []
drop_past zero [] l = refl
drop_past (suc k) [] l = refl
drop_past zero (x ∷ xs) l = absurd (omega arith)
drop_past (suc k) (x ∷ xs) l = drop_past k xs (omega arith)

take_none : (k : ℕ) → take {A = ℤ} k [] ≡ []
take_none zero = refl
take_none (suc k) = refl

channel_past : (y : AudioBuffer) (c : ℕ) → IsBuffer y → y.shape.channels ≤ c → channel_of y c ≡ []
channel_past y c is past =
    let more = mul-le-mul_right y.shape.frames past in
    let whole = is.samples in
    ap (take y.shape.frames) (drop_past (c * y.shape.frames) y.samples (omega (arith, more, whole))) ∙ take_none y.shape.frames

module _ (store : List AudioBuffer) (all : AreBuffers store) (b : BufId) (c : ℕ) where
  buffer_is : (y : AudioBuffer) → slice_get store b.0 ≡ Some y → IsBuffer y
  buffer_is y is = subst IsBuffer (got_at store b.0 y y is) (all.each b.0 y (got_low store b.0 y is))

  pub channel_there : (shape : Shape) → shape_at store b.0 ≡ Some shape → c < shape.channels → b.0 < length store → HasChannel store b.0 c
  channel_there shape is has low = (low, subst (λ (o : Option Shape). IfSome o (λ k. c < k.channels)) (sym is) has)

  pub samples_long : (shape : Shape) (samples : List ℤ) → shape_at store b.0 ≡ Some shape → c < shape.channels → channel_at store b.0 c ≡ Some samples → length samples ≡ frames_in store (Some b)
  samples_long shape samples is has found = by_found (slice_get store b.0) buffer_is is found
    where
      by_found : (o : Option AudioBuffer) → ((y : AudioBuffer) → o ≡ Some y → IsBuffer y) → option_map (λ (y : AudioBuffer). y.shape) o ≡ Some shape → option_map (λ (y : AudioBuffer). channel_of y c) o ≡ Some samples
          → length samples ≡ option_map_or (λ (y : AudioBuffer). y.shape.frames) o 0
      by_found None each is found = absurd cc
      by_found (Some y) each is found =
          ap (λ (o : Option (List ℤ)). length (unwrap_or o [])) (sym found)
          ∙ channel_long y c (each y refl) (subst (λ (k : Shape). c < k.channels) (sym (ap (λ (o : Option Shape). unwrap_or o shape) is)) has)

  pub samples_past : (shape : Shape) → shape_at store b.0 ≡ Some shape → shape.channels ≤ c → samples_in store (Some b) c ≡ []
  samples_past shape is past = by_found (slice_get store b.0) buffer_is is
    where
      by_found : (o : Option AudioBuffer) → ((y : AudioBuffer) → o ≡ Some y → IsBuffer y) → option_map (λ (y : AudioBuffer). y.shape) o ≡ Some shape → option_map_or (λ (y : AudioBuffer). channel_of y c) o [] ≡ []
      by_found None each is = absurd cc
      by_found (Some y) each is = channel_past y c (each y refl) (subst (λ (k : Shape). k.channels ≤ c) (sym (ap (λ (o : Option Shape). unwrap_or o shape) is)) past)
