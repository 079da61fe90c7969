-- A turn of a session, put together from its steps.
use Rattle.std.proofs.Common.{◌≡◌, ◌+◌, ◌*◌, ◌++◌, ◌∷◌, [], ℕ, ℤ, List, length, Option, Some, None, refl, sym, ap, ◌∙◌, subst}
use Rattle.std.specs.Prelude.{IfSome, IsTrue, IsSome, is_some, option_map}
use Rattle.wa_base.specs.Contexts.{quantum_of}
use Rattle.wa_base.specs.declared.contexts.ContextSpec.{ContextSpec}
use Rattle.ctx_state.specs.Context.{next}
use Rattle.control_msgs.specs.Messages.{ended_marked}
use Rattle.control_msgs.specs.declared.message.Message.TheVariants.{Ended}
use Rattle.meaning.specs.declared.world.World.{World}
use Rattle.meaning.specs.Validity.{IsValid}
use Rattle.transcript.specs.declared.lines.Line.{Line}
use Rattle.control_side.specs.Machine.{Machine, caught_up, world_caught_up}
use Rattle.control_side.specs.Turns.{gone_on}
use Rattle.session.specs.View.{SessionView, SideView, Stands, KeepsUp, HasRoom, Follows, MakesRoom, Gets, Marks, GoesOn, sent}
use Rattle.session.proofs.Sides.{Turned, turned_sides, turned_keeps, carried, same_audio, long_at, room_kept}
use Rattle.session.proofs.Standing.{turn_stands}
use Rattle.session.proofs.CatchingUp.{caught_up_sounds, caught_up_valid, caught_up_after}
use Rattle.control_side.proofs.Stepping.{turned_time, turned_started}

-- what a session looks like from outside
abbrev pub seen : Machine → List Line → List ℤ → Option SideView → SessionView
seen machine lines samples side = record { told = record { machine = machine; lines = lines }; audio = is_some side; samples = samples; renderer = option_map (λ s. s.renderer) side }

module _ (old new : Machine) (samples lent new_samples : List ℤ) (a b c e : Option SideView) (first : ℕ)
    (spec : ContextSpec) (of_context : spec ≡ old.context.spec) (of_world : spec ≡ old.world.spec)
    (is_first : first ≡ old.context.time) (machine : new ≡ gone_on old) (is_lent : lent ≡ samples)
    (made : Follows (MakesRoom 1) a b) (goes : Follows (GoesOn first lent new_samples) b c) (ended : Follows (Marks (first + quantum_of spec)) c e) where
  whole : old.context.spec ≡ old.world.spec
  whole = sym of_context ∙ of_world

  turned : Follows (Turned old.context.time (next old.context) samples new_samples) a e
  turned =
      subst (λ (s : ContextSpec). Follows (Turned old.context.time (old.context.time + quantum_of s) samples new_samples) a e) of_context
      (subst (λ n. Follows (Turned n (n + quantum_of spec) samples new_samples) a e) is_first
      (subst (λ xs. Follows (Turned first (first + quantum_of spec) xs new_samples) a e) is_lent (turned_sides first (first + quantum_of spec) lent new_samples a b c e made goes ended)))

  pub audio_stays : is_some e ≡ is_some a
  audio_stays = same_audio _ a e turned

  pub keeps_up : IfSome a (KeepsUp old) → IfSome e (KeepsUp new)
  keeps_up kept =
      carried (Turned old.context.time (next old.context) samples new_samples) (KeepsUp old) (KeepsUp new) a e
      (λ x y. turned_keeps old new samples new_samples x y whole (ap (λ (m : Machine). m.world) machine) (ap (λ (m : Machine). m.context.time) machine ∙ turned_time old.context)) turned kept

  pub has_room : length new_samples ≡ length samples → HasRoom (is_some a) old samples → HasRoom (is_some e) new new_samples
  has_room long room = λ on begun.
      long
      ∙ room (subst IsTrue audio_stays on) (subst IsSome (ap (λ (m : Machine). m.context.started) machine ∙ turned_started old.context) begun)
      ∙ sym (ap (λ (m : Machine). m.world.spec.channels * m.world.spec.length) machine)

  -- whatever slots were and are left to be set
  pub stands_next : (behind : Option ℕ) (lines more : List Line) (tape : List World) → IfSome a (KeepsUp old) → IsValid new.world → Stands (seen (caught_up behind old) lines samples a) tape
      → Stands (seen (caught_up (Some first) new) more new_samples e) (tape ++ world_caught_up behind old.world ∷ [])
  stands_next behind lines more tape kept valid stands =
      turn_stands old (seen (caught_up behind old) lines samples a) (seen (caught_up (Some first) new) more new_samples e) tape a e (caught_up_sounds behind old.world) refl refl refl refl kept (whole ∙ ap (λ (w : World). w.spec) (caught_up_sounds behind old.world)) turned
      (caught_up_after behind old new first is_first machine) (caught_up_valid (Some first) new.world valid) stands

-- with audio, there are samples to render into
pub long_room : (machine : Machine) (samples lent : List ℤ) (a b : Option SideView) → lent ≡ samples → IsSome machine.context.started → HasRoom (is_some a) machine samples → IfSome a (KeepsUp machine) → Follows (MakesRoom 1) a b
    → IfSome b (λ s. length lent ≡ (sent s).spec.channels * (sent s).spec.length)
long_room machine samples lent None None is_lent begun room keeps made = tt
long_room machine samples lent (Some x) (Some y) is_lent begun room keeps made = long_at machine lent y (ap length is_lent ∙ room refl begun) (room_kept machine 1 x y made keeps)
long_room machine samples lent None (Some y) is_lent begun room keeps made = absurd made
long_room machine samples lent (Some x) None is_lent begun room keeps made = absurd made

-- ---- the sources that end

pub marks_sent : (next : ℕ) (a b : Option SideView) → Follows (Gets (Ended next)) a b → Follows (Marks next) a b
marks_sent next None None gets = tt
marks_sent next (Some x) (Some y) gets = record { world = gets.world; renderer = gets.renderer }
marks_sent next None (Some y) gets = absurd gets
marks_sent next (Some x) None gets = absurd gets

-- where none ends, nothing is to be marked
pub marks_none : (next : ℕ) (a : Option SideView) → IfSome a (λ s. ended_marked next (sent s) ≡ sent s) → Follows (Marks next) a a
marks_none next None same = tt
marks_none next (Some x) same = record { world = sym same; renderer = refl }

pub none_ends : (m : Machine) (next first : ℕ) (lent new_samples : List ℤ) (a b c : Option SideView) → Follows (MakesRoom 1) a b → Follows (GoesOn first lent new_samples) b c → IfSome a (KeepsUp m)
    → ended_marked next m.world ≡ m.world → IfSome c (λ s. ended_marked next (sent s) ≡ sent s)
none_ends m next first lent new_samples None None None made goes keeps same = tt
none_ends m next first lent new_samples (Some x) (Some y) (Some z) made goes keeps same =
    subst (λ (w : World). ended_marked next w ≡ w) (sym (goes.world ∙ ap sent made.same ∙ keeps.world)) same
none_ends m next first lent new_samples None (Some y) c made goes keeps same = absurd made
none_ends m next first lent new_samples (Some x) None c made goes keeps same = absurd made
none_ends m next first lent new_samples None None (Some z) made goes keeps same = absurd goes
none_ends m next first lent new_samples (Some x) (Some y) None made goes keeps same = absurd goes
