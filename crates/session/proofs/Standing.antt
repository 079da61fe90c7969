-- A session that stands for a tape, through calls and quanta.
use Rattle.std.proofs.Common.{◌≡◌, ◌≤◌, ◌<◌, ◌+◌, ◌*◌, ◌++◌, ◌∷◌, [], ℕ, ℤ, pos, Bool, List, length, map, replicate, Option, Some, None, refl, sym, ap, ◌∙◌, subst, arith, length-append}
use Rattle.std.specs.Prelude.{IsTrue, IsSome, IsNone, IfSome, is_some, option_map}
use Rattle.std.proofs.lemmas.List.{length-map, map-append}
use Rattle.law_base.proofs.Rows.{next_quantum}
use Rattle.wa_base.specs.Contexts.{quantum_of}
use Rattle.wa_base.specs.declared.contexts.ContextSpec.{ContextSpec}
use Rattle.ctx_state.specs.Context.{next}
use Rattle.meaning.specs.declared.world.World.{World}
use Rattle.meaning.specs.World.{plain, sounding}
use Rattle.meaning.specs.Validity.{IsValid}
use Rattle.meaning.specs.Worlds.{IsRegular, first_world}
use Rattle.quantum_render.specs.Stands.{RendererView, StandsFor}
use Rattle.meaning.specs.Changes.{Grows}
use Rattle.session.specs.Frames.{WritesBelow}
use Rattle.control_side.specs.Machine.{Machine}
use Rattle.session.specs.Rows.{samples_of}
use Rattle.session.specs.Session.{first_told, machine_after}
use Rattle.control_side.specs.Step.{KeepsTime}
use Rattle.session.specs.View.{SessionView, SideView, Stands, IsFirst, Renders, KeepsUp, Follows, sent}
use Rattle.session.proofs.Sides.{Turned, carried, same_audio, on_renderer, of_renderer}
use Rattle.control_side.proofs.Stepping.{turned_time, turned_started}
use Rattle.session.proofs.Samples.{samples_of-empty, samples_of-alike, quantum_written}
use Rattle.session.proofs.Tapes.{regular_first, regular_grown, regular_after, regular_alike, some_frames}

-- ---- before the first call

renders_none : (r : RendererView) → StandsFor r [] → Renders [] r
renders_none r stands = record { worlds = []; alike = refl; stands = stands }

pub renders_nothing : (side : Option SideView) → IfSome side (λ s. StandsFor s.renderer []) → IfSome (option_map (λ (s : SideView). s.renderer) side) (Renders [])
renders_nothing None stands = tt
renders_nothing (Some s) stands = renders_none s.renderer stands

pub first_session : (spec : ContextSpec) (audio : Bool) (view : SessionView) → view.told ≡ first_told spec → view.audio ≡ audio → view.samples ≡ [] → IsValid (first_world spec) → IfSome view.renderer (Renders [])
    → IsFirst spec audio view
first_session spec audio view told heard samples valid renders = record {
  told = told;
  heard = heard;
  samples = samples;
  stands = record {
    time = let at = ap (λ t. t.machine.context.time) told in omega (arith, at);
    regular = subst (λ (w : World). IsRegular (quantum_of w.spec) (w ∷ [])) (sym (ap (λ t. t.machine.world) told)) (regular_first (quantum_of spec) spec valid);
    samples = λ on begun. let none = subst IsSome (ap (λ t. t.machine.context.started) told) begun in absurd cc;
    renders = renders;
  };
}

-- ---- calls

empty_tape : (q : ℕ) (tape : List World) → 0 < q → 0 ≡ q * length tape → tape ≡ []
empty_tape q [] some none = refl
empty_tape q (w ∷ ws) some none =
    let is : 0 ≡ q * (length ws + 1) = none ∙ ap (λ k. q * k) (let e : length (w ∷ ws) ≡ length ws + 1 = omega arith in e) in
    let more = next_quantum q (length ws) in
    absurd (omega (arith, some, is, more))

grown : (old new : Machine) (tape : List World) → Grows old.context.time old.world new.world → old.context.time ≡ quantum_of old.world.spec * length tape → IsRegular (quantum_of old.world.spec) (tape ++ old.world ∷ [])
    → IsRegular (quantum_of new.world.spec) (tape ++ new.world ∷ [])
grown old new tape grows time regular = regular_grown tape old.world new.world regular (subst (λ n. Grows n old.world new.world) time grows)

-- a call that starts no rendering
pub Stands-kept : (old new : SessionView) (tape : List World) → new.audio ≡ old.audio → KeepsTime old.told.machine new.told.machine → Grows old.told.machine.context.time old.told.machine.world new.told.machine.world
    → new.samples ≡ old.samples → new.renderer ≡ old.renderer
    → (IsTrue old.audio → IsSome new.told.machine.context.started → IsSome old.told.machine.context.started) → Stands old tape → Stands new tape
Stands-kept old new tape audio kept grows samples renderer started stands = record {
  time = kept.now ∙ stands.time ∙ ap (λ (s : ContextSpec). quantum_of s * length tape) (sym kept.spec);
  regular = grown old.told.machine new.told.machine tape grows stands.time stands.regular;
  samples = λ on begun. let was = subst IsTrue audio on in samples ∙ stands.samples was (started was begun) ∙ ap (samples_of tape) (sym kept.spec);
  renders = subst (λ r. IfSome r (Renders tape)) (sym renderer) stands.renders;
}

-- the call that starts the rendering
pub Stands-begun : (old new : SessionView) (tape : List World) → KeepsTime old.told.machine new.told.machine → Grows old.told.machine.context.time old.told.machine.world new.told.machine.world
    → old.told.machine.context.time ≡ 0 → new.samples ≡ replicate (old.told.machine.world.spec.channels * old.told.machine.world.spec.length) (pos 0) → new.renderer ≡ old.renderer → Stands old tape → Stands new tape
Stands-begun old new tape kept grows first samples renderer stands =
    let q = quantum_of old.told.machine.world.spec in
    let none : tape ≡ [] = empty_tape q tape (some_frames q tape old.told.machine.world stands.regular) (sym first ∙ stands.time) in
    record {
      time = kept.now ∙ stands.time ∙ ap (λ (s : ContextSpec). quantum_of s * length tape) (sym kept.spec);
      regular = grown old.told.machine new.told.machine tape grows stands.time stands.regular;
      samples = λ on begun. rw (none, kept.spec) (samples ∙ sym (samples_of-empty old.told.machine.world.spec));
      renders = subst (λ r. IfSome r (Renders tape)) (sym renderer) stands.renders;
    }

pub some_unless_none : (o : Option ℕ) → (IsNone o → ⊥) → IsSome o
some_unless_none None some = absurd (some refl)
some_unless_none (Some n) some = refl

-- ---- quanta

-- tapes that sound alike, and one more world that does
pub longer : (tape other : List World) (w v : World) → map sounding tape ≡ map sounding other → sounding w ≡ sounding v → map sounding (tape ++ w ∷ []) ≡ map sounding (other ++ v ∷ [])
longer tape other w v same last =
    map-append sounding tape (w ∷ [])
    ∙ ap (λ (ws : List World). ws ++ sounding w ∷ []) same
    ∙ ap (λ (x : World). map sounding other ++ x ∷ []) last
    ∙ sym (map-append sounding other (v ∷ []))

pub raw_regular : (q : ℕ) (tape worlds : List World) (w : World) → map sounding worlds ≡ map sounding tape → IsRegular q (tape ++ plain w ∷ []) → IsRegular q (worlds ++ w ∷ [])
raw_regular q tape worlds w same regular = regular_alike q (tape ++ plain w ∷ []) (worlds ++ w ∷ []) (sym (longer worlds tape w (plain w) same refl)) regular

pub renders_more : (tape worlds : List World) (w : World) (r : RendererView) → map sounding worlds ≡ map sounding tape → StandsFor r (worlds ++ w ∷ []) → Renders (tape ++ plain w ∷ []) r
renders_more tape worlds w r same stands = record { worlds = worlds ++ w ∷ []; alike = longer worlds tape w (plain w) same refl; stands = stands }

-- a renderer that stands for a tape does so for one that sounds alike
renders_alike : (tape other : List World) (r : RendererView) → map sounding tape ≡ map sounding other → Renders tape r → Renders other r
renders_alike tape other r same renders = record { worlds = renders.worlds; alike = renders.alike ∙ same; stands = renders.stands }

pub length_worlds : (tape worlds : List World) → map sounding worlds ≡ map sounding tape → length worlds ≡ length tape
length_worlds tape worlds same = sym (length-map worlds sounding) ∙ ap length same ∙ length-map tape sounding

-- the samples with the quantum's frames written
pub samples_more : (tape worlds : List World) (w : World) (spec : ContextSpec) (old new : List ℤ) (first : ℕ) → map sounding worlds ≡ map sounding tape → first ≡ quantum_of spec * length tape → old ≡ samples_of tape spec
    → WritesBelow old new spec (worlds ++ w ∷ []) first (first + quantum_of spec) spec.channels → 1 ≤ spec.length → 0 < quantum_of spec → length new ≡ length old → length old ≡ spec.channels * spec.length
    → new ≡ samples_of (tape ++ plain w ∷ []) spec
samples_more tape worlds w spec old new first same first_is old_is writes some size long room =
    let count = length_worlds tape worlds same in
    quantum_written worlds w spec old new first (first_is ∙ ap (λ n. quantum_of spec * n) (sym count)) (old_is ∙ samples_of-alike tape worlds (sym same) spec size) writes some size long room
    ∙ samples_of-alike (worlds ++ w ∷ []) (tape ++ plain w ∷ []) (longer worlds tape w (plain w) same refl) spec size

-- a quantum
pub Stands-after : (old new : SessionView) (tape : List World) → new.audio ≡ old.audio → new.told.machine.context.time ≡ old.told.machine.context.time + quantum_of old.told.machine.world.spec → new.told.machine.context.started ≡ old.told.machine.context.started
    → IsValid new.told.machine.world → new.told.machine.world.spec ≡ old.told.machine.world.spec → new.told.machine.world.nodes ≡ old.told.machine.world.nodes
    → (IsTrue old.audio → IsSome old.told.machine.context.started → new.samples ≡ samples_of (tape ++ old.told.machine.world ∷ []) old.told.machine.world.spec)
    → IfSome new.renderer (Renders (tape ++ old.told.machine.world ∷ [])) → Stands old tape → Stands new (tape ++ old.told.machine.world ∷ [])
Stands-after old new tape audio now started valid spec nodes samples renders stands = record {
  time =
      let q = quantum_of old.told.machine.world.spec in
      let long : length (tape ++ old.told.machine.world ∷ []) ≡ length tape + 1 = length-append tape (old.told.machine.world ∷ []) in
      now
      ∙ ap (λ n. n + q) stands.time
      ∙ sym (next_quantum q (length tape))
      ∙ ap (λ n. q * n) (sym long)
      ∙ ap (λ (s : ContextSpec). quantum_of s * length (tape ++ old.told.machine.world ∷ [])) (sym spec);
  regular =
      subst (λ (s : ContextSpec). IsRegular (quantum_of s) ((tape ++ old.told.machine.world ∷ []) ++ new.told.machine.world ∷ [])) (sym spec)
      (regular_after (quantum_of old.told.machine.world.spec) tape old.told.machine.world new.told.machine.world stands.regular valid spec nodes);
  samples = λ on begun. samples (subst IsTrue audio on) (subst IsSome started begun) ∙ ap (samples_of (tape ++ old.told.machine.world ∷ [])) (sym spec);
  renders = renders;
}

-- from what a turn does to the side that renders, which keeps up with a machine that sounds as the session's
pub turn_stands : (raw : Machine) (old new : SessionView) (tape : List World) (a e : Option SideView) → sounding raw.world ≡ sounding old.told.machine.world
    → old.renderer ≡ option_map (λ (x : SideView). x.renderer) a → new.renderer ≡ option_map (λ (x : SideView). x.renderer) e
    → old.audio ≡ is_some a → new.audio ≡ is_some e → IfSome a (KeepsUp raw) → old.told.machine.context.spec ≡ old.told.machine.world.spec
    → Follows (Turned old.told.machine.context.time (next old.told.machine.context) old.samples new.samples) a e
    → new.told.machine ≡ machine_after old.told.machine → IsValid new.told.machine.world → Stands old tape → Stands new (tape ++ old.told.machine.world ∷ [])
turn_stands raw old new tape a e sounds old_renderer new_renderer old_audio new_audio keeps whole turned machine valid stands =
    Stands-after old new tape (new_audio ∙ same_audio _ a e turned ∙ sym old_audio) (ap (λ (x : Machine). x.context.time) machine ∙ turned_time m.context ∙ ap (λ (s : ContextSpec). m.context.time + quantum_of s) whole) (ap (λ (x : Machine). x.context.started) machine ∙ turned_started m.context) valid
    (ap (λ (x : Machine). x.world.spec) machine) (ap (λ (x : Machine). x.world.nodes) machine)
    (λ on begun. samples_at a e (subst IsTrue old_audio on) (subst (λ r. IfSome r (Renders tape)) old_renderer stands.renders) (stands.samples on begun) keeps turned)
    (subst (λ r. IfSome r (Renders (tape ++ m.world ∷ []))) (sym new_renderer)
    (of_renderer (Renders (tape ++ m.world ∷ [])) e
    (carried (Turned m.context.time (next m.context) old.samples new.samples) (λ x. KeepsUp raw x × Renders tape x.renderer) (λ y. Renders (tape ++ m.world ∷ []) y.renderer) a e
    (λ x y t p. renders_alike (tape ++ raw.world ∷ []) (tape ++ m.world ∷ []) y.renderer alike
    (subst (λ (w : World). Renders (tape ++ w ∷ []) y.renderer) p.0.world (t.renders tape p.1 (regular_sent x p.0))))
    turned (both (KeepsUp raw) (λ x. Renders tape x.renderer) a keeps (on_renderer (Renders tape) a (subst (λ r. IfSome r (Renders tape)) old_renderer stands.renders))))))
    stands
  where
    m : Machine
    m = old.told.machine

    alike : map sounding (tape ++ raw.world ∷ []) ≡ map sounding (tape ++ m.world ∷ [])
    alike = longer tape tape raw.world m.world refl sounds

    spec : raw.world.spec ≡ m.world.spec
    spec = ap (λ (w : World). w.spec) sounds

    some : 0 < quantum_of raw.world.spec
    some = subst (λ (s : ContextSpec). 0 < quantum_of s) (sym spec) (some_frames (quantum_of m.world.spec) tape m.world stands.regular)

    regular_sent : (x : SideView) → KeepsUp raw x → IsRegular (quantum_of (sent x).spec) (tape ++ sent x ∷ [])
    regular_sent x keep =
        subst (λ (w : World). IsRegular (quantum_of w.spec) (tape ++ w ∷ [])) (sym keep.world)
        (subst (λ (s : ContextSpec). IsRegular (quantum_of s) (tape ++ raw.world ∷ [])) (sym spec) (regular_alike (quantum_of m.world.spec) (tape ++ m.world ∷ []) (tape ++ raw.world ∷ []) (sym alike) stands.regular))

    both : (P Q : SideView → Type 0) (o : Option SideView) → IfSome o P → IfSome o Q → IfSome o (λ x. P x × Q x)
    both P Q None p q = tt
    both P Q (Some x) p q = (p, q)

    samples_at : (a e : Option SideView) → IsTrue (is_some a) → IfSome (option_map (λ (x : SideView). x.renderer) a) (Renders tape) → old.samples ≡ samples_of tape m.world.spec → IfSome a (KeepsUp raw)
        → Follows (Turned m.context.time (next m.context) old.samples new.samples) a e
        → new.samples ≡ samples_of (tape ++ m.world ∷ []) m.world.spec
    samples_at None e on renders so_far keeps turned = absurd cc
    samples_at (Some x) None on renders so_far keeps turned = absurd turned
    samples_at (Some x) (Some y) on renders so_far keeps turned =
        turned.samples tape renders (regular_sent x keeps) (stands.time ∙ ap (λ (s : ContextSpec). quantum_of s * length tape) (sym spec) ∙ ap (λ (w : World). quantum_of w.spec * length tape) (sym keeps.world)) (so_far ∙ ap (samples_of tape) (sym spec) ∙ ap (λ (w : World). samples_of tape w.spec) (sym keeps.world))
        ∙ ap (λ (w : World). samples_of (tape ++ w ∷ []) w.spec) keeps.world
        ∙ samples_of-alike (tape ++ raw.world ∷ []) (tape ++ m.world ∷ []) alike raw.world.spec some
        ∙ ap (samples_of (tape ++ m.world ∷ [])) spec
