-- The side that renders, through messages and quanta, where there is one.
use Rattle.std.proofs.Common.{◌≡◌, ◌≤◌, ◌<◌, ◌+◌, ◌*◌, ◌++◌, ◌∷◌, [], ℕ, ℤ, List, length, Option, Some, None, refl, sym, ap, ◌∙◌, subst}
use Rattle.std.specs.Prelude.{IfSome, is_some, option_map}
use Rattle.wa_base.specs.Contexts.{quantum_of}
use Rattle.wa_base.specs.declared.contexts.ContextSpec.{ContextSpec}
use Rattle.ctx_state.specs.Context.{next}
use Rattle.control_msgs.specs.declared.message.Message.{Message}
use Rattle.control_msgs.specs.declared.message.Message.TheVariants.{Change as of_change, Slots}
use Rattle.control_msgs.specs.Messages.{ended_marked, after_message}
use Rattle.meaning.specs.declared.change.Change.{Change}
use Rattle.meaning.specs.declared.world.World.{World}
use Rattle.meaning.specs.Changes.{Accepts, changed}
use Rattle.meaning.specs.Worlds.{IsRegular}
use Rattle.quantum_render.specs.Stands.{RendererView}
use Rattle.control_side.specs.Machine.{Machine, caught_up, world_caught_up}
use Rattle.session.specs.Rows.{samples_of}
use Rattle.control_side.specs.Step.{KeepsTime, Sends}
use Rattle.session.specs.View.{SideView, sent, IsAt, KeepsUp, Follows, MakesRoom, Gets, Marks, CatchesUp, Hears, GoesOn, Waits, Renders}

-- ---- steps, where there is a side

pub carried : (step : SideView → SideView → Type 0) (P Q : SideView → Type 0) (a b : Option SideView) → ((x y : SideView) → step x y → P x → Q y) → Follows step a b → IfSome a P → IfSome b Q
carried step P Q None None f follows p = tt
carried step P Q (Some x) (Some y) f follows p = f x y follows p
carried step P Q None (Some y) f follows p = absurd follows
carried step P Q (Some x) None f follows p = absurd follows

pub composed : (R S T : SideView → SideView → Type 0) (a b c : Option SideView) → ((x y z : SideView) → R x y → S y z → T x z) → Follows R a b → Follows S b c → Follows T a c
composed R S T None None None f r s = tt
composed R S T (Some x) (Some y) (Some z) f r s = f x y z r s
composed R S T None None (Some z) f r s = absurd s
composed R S T None (Some y) c f r s = absurd r
composed R S T (Some x) None c f r s = absurd r
composed R S T (Some x) (Some y) None f r s = absurd s

pub same_audio : (step : SideView → SideView → Type 0) (a b : Option SideView) → Follows step a b → is_some b ≡ is_some a
same_audio step None None follows = refl
same_audio step (Some x) (Some y) follows = refl
same_audio step None (Some y) follows = absurd follows
same_audio step (Some x) None follows = absurd follows

pub all_sides : (P : SideView → Type 0) (a : Option SideView) → ((x : SideView) → P x) → IfSome a P
all_sides P None f = tt
all_sides P (Some x) f = f x

-- the renderers of sides
pub on_renderer : (P : RendererView → Type 0) (a : Option SideView) → IfSome (option_map (λ (s : SideView). s.renderer) a) P → IfSome a (λ s. P s.renderer)
on_renderer P None p = tt
on_renderer P (Some x) p = p

pub of_renderer : (P : RendererView → Type 0) (a : Option SideView) → IfSome a (λ s. P s.renderer) → IfSome (option_map (λ (s : SideView). s.renderer) a) P
of_renderer P None p = tt
of_renderer P (Some x) p = p

-- ---- room

pub same_sent : (more : ℕ) (x y : SideView) → MakesRoom more x y → sent y ≡ sent x
same_sent more x y made = ap sent made.same

pub same_renderer : (more : ℕ) (x y : SideView) → MakesRoom more x y → y.renderer ≡ x.renderer
same_renderer more x y made = ap (λ (s : SideView). s.renderer) made.same

pub room_kept : (machine : Machine) (more : ℕ) (x y : SideView) → MakesRoom more x y → KeepsUp machine x → KeepsUp machine y
room_kept machine more x y made keeps = record {
  renderer = subst (IsAt machine.world.spec machine.context.time) (sym (same_renderer more x y made)) keeps.renderer;
  world = same_sent more x y made ∙ keeps.world;
}

-- ---- slots that are set late

-- where none are to be set, the side stays
pub caught_up_already : (a : Option SideView) → Follows (CatchesUp None) a a
caught_up_already None = tt
caught_up_already (Some x) = record { world = refl; renderer = refl }

pub catches_up_by : (first : ℕ) (a b c : Option SideView) → Follows (MakesRoom 1) a b → Follows (Gets (Slots first)) b c → Follows (CatchesUp (Some first)) a c
catches_up_by first a b c made gets = composed (MakesRoom 1) (Gets (Slots first)) (CatchesUp (Some first)) a b c (λ x y z step got. record {
  world = got.world ∙ ap (λ w. after_message w (Slots first)) (same_sent 1 x y step);
  renderer = got.renderer ∙ same_renderer 1 x y step;
}) made gets

-- it keeps up with the machine whose slots are set too
pub catches_up_keeps : (behind : Option ℕ) (old new : Machine) (a b : Option SideView) → new ≡ caught_up behind old → Follows (CatchesUp behind) a b → IfSome a (KeepsUp old) → IfSome b (KeepsUp new)
catches_up_keeps behind old new a b is caught keeps =
    subst (λ (m : Machine). IfSome b (KeepsUp m)) (sym is)
    (carried (CatchesUp behind) (KeepsUp old) (KeepsUp (caught_up behind old)) a b (λ x y step keep. record {
      renderer = subst (IsAt old.world.spec old.context.time) (sym step.renderer) keep.renderer;
      world = step.world ∙ ap (world_caught_up behind) keep.world;
    }) caught keeps)

pub catches_up_renderer : (behind : Option ℕ) (a b : Option SideView) → Follows (CatchesUp behind) a b → option_map (λ (s : SideView). s.renderer) b ≡ option_map (λ (s : SideView). s.renderer) a
catches_up_renderer behind None None caught = refl
catches_up_renderer behind (Some x) (Some y) caught = ap Some caught.renderer
catches_up_renderer behind None (Some y) caught = absurd caught
catches_up_renderer behind (Some x) None caught = absurd caught

-- ---- a call

pub heard_of : (message : Message) (change : Change) (x y : SideView) → message ≡ of_change change → Accepts (sent x) change → Gets message x y → Hears (Some change) x y
heard_of message change x y is accepted gets = record { world = (accepted, gets.world ∙ ap (after_message (sent x)) is); renderer = gets.renderer }

pub nothing_heard : (a : Option SideView) → Follows (Hears None) a a
nothing_heard None = tt
nothing_heard (Some x) = record { world = refl; renderer = refl }

-- the side hears of a change of the machine's world, or its world stays
pub heard_keeps : (old new : Machine) (change : Option Change) (x y : SideView) → KeepsTime old new → Sends old.world new.world change → Hears change x y → KeepsUp old x → KeepsUp new y
heard_keeps old new change x y kept sends hears keeps = record {
  renderer = subst (λ t. IsAt new.world.spec t y.renderer) (sym kept.now)
      (subst (λ (s : ContextSpec). IsAt s old.context.time y.renderer) (sym kept.spec) (subst (IsAt old.world.spec old.context.time) (sym hears.renderer) keeps.renderer));
  world = by_change change hears.world sends;
}
  where
    by_change : (o : Option Change) → Sends (sent x) (sent y) o → Sends old.world new.world o → sent y ≡ new.world
    by_change None one two = one ∙ keeps.world ∙ sym two
    by_change (Some c) one two = one.1 ∙ ap (λ w. changed w c) keeps.world ∙ sym two.1

-- it accepts what the machine's world accepted
pub heard_accepted : (old : Machine) (new : World) (change : Option Change) (a b : Option SideView) → Sends old.world new change → IfSome a (KeepsUp old) → Follows (MakesRoom 1) a b → IfSome change (λ c. IfSome b (λ s. Accepts (sent s) c))
heard_accepted old new None a b sends keeps made = tt
heard_accepted old new (Some c) a b sends keeps made =
    carried (MakesRoom 1) (KeepsUp old) (λ s. Accepts (sent s) c) a b (λ x y step keep. subst (λ w. Accepts w c) (sym (room_kept old 1 x y step keep).world) sends.0) made keeps

pub has_room_for : (more : ℕ) (a b : Option SideView) → Follows (MakesRoom more) a b → IfSome b (λ s. more ≤ s.room)
has_room_for more a b made = carried (MakesRoom more) (λ s. Unit {0}) (λ s. more ≤ s.room) a b (λ x y step none. step.room) made (all_sides (λ s. Unit {0}) a (λ s. tt))

pub call_keeps : (old new : Machine) (change : Option Change) (a b d : Option SideView) → KeepsTime old new → Sends old.world new.world change → Follows (MakesRoom 1) a b → Follows (Hears change) b d → IfSome a (KeepsUp old) → IfSome d (KeepsUp new)
call_keeps old new change a b d kept sends made hears keeps =
    carried (Hears change) (KeepsUp old) (KeepsUp new) b d (λ x y step keep. heard_keeps old new change x y kept sends step keep) hears
    (carried (MakesRoom 1) (KeepsUp old) (KeepsUp old) a b (λ x y step keep. room_kept old 1 x y step keep) made keeps)

pub call_renderer : (change : Option Change) (a b d : Option SideView) → Follows (MakesRoom 1) a b → Follows (Hears change) b d → option_map (λ (s : SideView). s.renderer) d ≡ option_map (λ (s : SideView). s.renderer) a
call_renderer change None None None made hears = refl
call_renderer change (Some x) (Some y) (Some z) made hears = ap Some (hears.renderer ∙ same_renderer 1 x y made)
call_renderer change None (Some y) d made hears = absurd made
call_renderer change (Some x) None d made hears = absurd made
call_renderer change None None (Some z) made hears = absurd hears
call_renderer change (Some x) (Some y) None made hears = absurd hears

pub call_audio : (change : Option Change) (a b d : Option SideView) → Follows (MakesRoom 1) a b → Follows (Hears change) b d → is_some d ≡ is_some a
call_audio change a b d made hears = same_audio (Hears change) b d hears ∙ same_audio (MakesRoom 1) a b made

-- ---- a turn

-- what a turn does to a side
pub record Turned (first last : ℕ) (old_samples new_samples : List ℤ) (old new : SideView) : Type 0 where
  pub world : sent new ≡ ended_marked last (sent old)
  pub at : IsAt (sent old).spec (first + quantum_of (sent old).spec) new.renderer
  pub renders : (tape : List World) → Renders tape old.renderer → IsRegular (quantum_of (sent old).spec) (tape ++ sent old ∷ []) → Renders (tape ++ sent old ∷ []) new.renderer
  pub samples : (tape : List World) → Renders tape old.renderer → IsRegular (quantum_of (sent old).spec) (tape ++ sent old ∷ []) → first ≡ quantum_of (sent old).spec * length tape
      → old_samples ≡ samples_of tape (sent old).spec → new_samples ≡ samples_of (tape ++ sent old ∷ []) (sent old).spec

module _ (first last : ℕ) (samples new_samples : List ℤ) where
  turned_of : (x y z v : SideView) → MakesRoom 1 x y → GoesOn first samples new_samples y z → Marks last z v → Turned first last samples new_samples x v
  turned_of x y z v made goes ended =
      let goes_on : GoesOn first samples new_samples (record x { room = y.room }) z = subst (λ (s : SideView). GoesOn first samples new_samples s z) made.same goes in
      let renderer : z.renderer ≡ v.renderer = sym ended.renderer in
      record {
        world = ended.world ∙ ap (ended_marked last) goes_on.world;
        at = subst (IsAt (sent x).spec (first + quantum_of (sent x).spec)) renderer goes_on.at;
        renders = λ tape renders regular. subst (Renders (tape ++ sent x ∷ [])) renderer (goes_on.renders tape renders regular);
        samples = goes_on.samples;
      }

  pub turned_sides : (a b c d : Option SideView) → Follows (MakesRoom 1) a b → Follows (GoesOn first samples new_samples) b c → Follows (Marks last) c d → Follows (Turned first last samples new_samples) a d
  turned_sides None None None None made goes ended = tt
  turned_sides (Some x) (Some y) (Some z) (Some v) made goes ended = turned_of x y z v made goes ended
  turned_sides None (Some y) c d made goes ended = absurd made
  turned_sides (Some x) None c d made goes ended = absurd made
  turned_sides None None (Some z) d made goes ended = absurd goes
  turned_sides (Some x) (Some y) None d made goes ended = absurd goes
  turned_sides None None None (Some v) made goes ended = absurd ended
  turned_sides (Some x) (Some y) (Some z) None made goes ended = absurd ended

-- it keeps up with the machine
pub turned_keeps : (old new : Machine) (samples new_samples : List ℤ) (x y : SideView) → old.context.spec ≡ old.world.spec → new.world ≡ ended_marked (next old.context) old.world → new.context.time ≡ next old.context
    → Turned old.context.time (next old.context) samples new_samples x y → KeepsUp old x → KeepsUp new y
turned_keeps old new samples new_samples x y whole world time turned keeps = record {
  renderer =
      let same : new.world.spec ≡ old.world.spec = ap (λ (w : World). w.spec) world in
      let spec : (sent x).spec ≡ new.world.spec = ap (λ (w : World). w.spec) keeps.world ∙ sym same in
      let later = time ∙ ap (λ (s : ContextSpec). old.context.time + quantum_of s) (whole ∙ sym same) in
      subst (λ t. IsAt new.world.spec t y.renderer) (sym later) (subst (λ (s : ContextSpec). IsAt s (old.context.time + quantum_of s) y.renderer) spec turned.at);
  world = turned.world ∙ ap (ended_marked (next old.context)) keeps.world ∙ sym world;
}

-- ---- what a turn asks for

pub at_turn : (machine : Machine) (s : SideView) → KeepsUp machine s → IsAt (sent s).spec machine.context.time s.renderer
at_turn machine s keeps = subst (λ (w : World). IsAt w.spec machine.context.time s.renderer) (sym keeps.world) keeps.renderer

pub running_at : (machine : Machine) (s : SideView) → machine.context.time < machine.world.spec.length → KeepsUp machine s → machine.context.time < (sent s).spec.length
running_at machine s left keeps = subst (λ (w : World). machine.context.time < w.spec.length) (sym keeps.world) left

pub long_at : (machine : Machine) (samples : List ℤ) (s : SideView) → length samples ≡ machine.world.spec.channels * machine.world.spec.length → KeepsUp machine s
    → length samples ≡ (sent s).spec.channels * (sent s).spec.length
long_at machine samples s long keeps = subst (λ (w : World). length samples ≡ w.spec.channels * w.spec.length) (sym keeps.world) long

-- ---- want of memory

pub waits_kept : (machine : Machine) (x y : SideView) → Waits machine.context.time x y → KeepsUp machine x → KeepsUp machine y
waits_kept machine x y waits keeps = record {
  renderer = subst (λ (w : World). IsAt w.spec machine.context.time y.renderer) keeps.world waits.at;
  world = waits.world ∙ keeps.world;
}
