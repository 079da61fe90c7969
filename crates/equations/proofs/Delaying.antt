-- What the reader of a delay gives.
use Rattle.std.proofs.Common.{ℕ, ℤ, pos, negsuc, length, [], inr, ◌≡◌, ◌+◌, ◌-◌, ◌/◌, ◌<◌, ◌≤◌, Bool, true, false, refl, sym, ◌∙◌, ap, subst, arith}
use Rattle.std.specs.Prelude.{if◌then◌else◌, nat_lt, max}
use Rattle.std.proofs.lemmas.Bool.Decides.{nat_tests}
use Rattle.std.proofs.lemmas.Int.{ints}
use Rattle.wa_base.specs.Numbers.{IsFix, sat}
use Rattle.wa_base.specs.declared.graph_names.Interp.{Interp}
use Rattle.wa_base.specs.declared.graph_names.ParamName.TheVariants as param
use Rattle.law_base.specs.Members.{IsIn}
use Rattle.mix_rules.specs.Mixing.{mix}
use Rattle.node_table.specs.Delays.{frames_of}
use Rattle.node_table.specs.Kinds.{is_delay_kind}
use Rattle.node_table.specs.declared.kinds.Kind.{Kind}
use Rattle.node_table.specs.declared.kinds.Kind.TheVariants.{Delay}
use Rattle.conn_graph.specs.Ends.{writer_of, reader_of, in_cycle, muted}
use Rattle.conn_graph.proofs.EndLaws.{end_is}
use Rattle.meaning.specs.declared.world.World.{World}
use Rattle.meaning.specs.World.{node_at, kind_of, param_id}
use Rattle.meaning.specs.Values.{Frame, seen, computed_value, delay_frames, delayed, value_by_kind, equation, has_channel}
use Rattle.meaning.proofs.Asking.{asked_count, delay_long}
use Rattle.meaning.proofs.Joined.{joined_in}
use Rattle.meaning.proofs.MixedUp.{mix_fix}
use Rattle.meaning.proofs.ValueLaws.{value_solves}
use Rattle.meaning.proofs.Successors.{div-le-div}
use Rattle.explain.specs.Facts.{HasOutput}
use Rattle.explain.specs.Needs.{carried, delayed_needs}
use Rattle.explain.proofs.Agreeing.{seen_is}
use Rattle.derivations.specs.declared.places.Context.{Context}
use Rattle.derivations.specs.declared.tape.Stretch.{Stretch}
use Rattle.derivations.specs.Contexts.{tape_in, world_of, HasFrame}
use Rattle.derivations.specs.Stretches.{IsInForce}
use Rattle.derivations.proofs.Staying.{writer_there}
use Rattle.derivations.proofs.Worlds.{world_is}
use Rattle.equations.specs.Given.{IsGiven, meaning_of, AllKnown, frame_of, frames_before}
use Rattle.equations.proofs.Ranging.{input_fix, zero_fix}

-- the writer of a delay carries what its input takes in
writer_fix : (q f : ℕ) (past : ℕ → Frame) (here : Frame) (n c : ℕ) → is_delay_kind (kind_of here.world n) ≡ true → IsFix (equation q f past here (writer_of n) 0 c)
unfolding equation
writer_fix q f past here n c delay = by_test (muted here.world.graph.value (writer_of n)) (has_channel here.world here.counts (writer_of n) 0 c)
  where
    by_kind : (k : Kind) → is_delay_kind k ≡ true → IsFix (value_by_kind q f past here k (writer_of n) 0 c)
    by_kind (Delay longest time capacity) is = input_fix here n 0 c
    by_kind other is = absurd cc

    by_test : (a b : Bool) → IsFix (if a then pos 0 else if b then value_by_kind q f past here (kind_of here.world n) (writer_of n) 0 c else pos 0)
    by_test true b = zero_fix
    by_test false true = by_kind (kind_of here.world n) delay
    by_test false false = zero_fix

module _ (x : Context) (given : IsGiven x) (f n : ℕ) where
  abbrev pub w : World
  w = world_of x f

  abbrev pub d : ℕ
  d = delay_frames x.quantum f (frames_before x f) (frame_of x f) n

  abbrev time : ℤ
  time = computed_value x.quantum f (frames_before x f) (frame_of x f) (param_id n param.DelayTime)

  -- ---- how long it lasts

  abbrev lasting_in : World → ℤ → ℕ
  lasting_in y v = if in_cycle y.graph.value n then max x.quantum (frames_of v y.spec.rate) else frames_of v y.spec.rate

  pub lasts : (s : Stretch) → IsInForce (tape_in x) (f / x.quantum) s → (v : ℤ) (frames : ℕ) → v ≡ time
      → frames ≡ (if in_cycle s.piece.world.graph.value n then max x.quantum (frames_of v s.piece.world.spec.rate) else frames_of v s.piece.world.spec.rate) → frames ≡ d
  lasts s in_force v frames time_is frames_is =
      frames_is ∙ ap (lasting_in s.piece.world) time_is ∙ ap (λ (y : World). lasting_in y time) (sym (world_is (tape_in x) (f / x.quantum) s.piece.world in_force.there))

  -- ---- what is known

  pub carried_known : AllKnown x (delayed_needs x.quantum (tape_in x) (meaning_of x) f n) → (node_at w n).attrs.birth + d ≤ f → AllKnown x (carried x.quantum (tape_in x) (meaning_of x) (f - d) (writer_of n) 0)
  carried_known known born k h =
      let old : nat_lt f ((node_at w n).attrs.birth + d) ≡ false = grind (arith, nat_tests) in
      known k (inr (subst (λ t. IsIn k (if t then [] else carried x.quantum (tape_in x) (meaning_of x) (f - d) (writer_of n) 0)) (sym old) h))

  -- ---- what it gives

  abbrev mixed_from : ℕ → Frame → ℤ
  mixed_from c y = mix (node_at w n).attrs.interp (y.counts (writer_of n)) ((meaning_of x).counts (f / x.quantum) (reader_of n)) (y.values (writer_of n) 0) c

  abbrev by_birth : ℕ → Bool → ℤ
  by_birth c t = if t then pos 0 else mixed_from c (seen f (frames_before x f) (frame_of x f) (f - d))

  pub young : (c : ℕ) → f < (node_at w n).attrs.birth + d → pos 0 ≡ delayed x.quantum f (frames_before x f) (frame_of x f) n c
  young c unborn = sym (ap (by_birth c) (let t : nat_lt f ((node_at w n).attrs.birth + d) ≡ true = grind (arith, nat_tests) in t))

  pub old : (c : ℕ) → (node_at w n).attrs.birth + d ≤ f
      → mix (node_at w n).attrs.interp ((meaning_of x).counts ((f - d) / x.quantum) (writer_of n)) ((meaning_of x).counts (f / x.quantum) (reader_of n)) ((meaning_of x).values (f - d) (writer_of n) 0) c
      ≡ delayed x.quantum f (frames_before x f) (frame_of x f) n c
  old c born =
      ap (mixed_from c) (sym (seen_is x.quantum (tape_in x) (meaning_of x) f (f - d) (omega arith)))
      ∙ sym (ap (by_birth c) (let t : nat_lt f ((node_at w n).attrs.birth + d) ≡ false = grind (arith, nat_tests) in t))

  -- ---- it is a Fix

  module _ (short : HasFrame x f) (there : n < length w.nodes) (delay : is_delay_kind (kind_of w n) ≡ true) (born : (node_at w n).attrs.birth + d ≤ f) where
    pub writer_has : HasOutput (world_of x (f - d)) (writer_of n) 0
    writer_has =
        writer_there x.quantum given.ready.some (tape_in x) given.ready.regular (f / x.quantum) n short there delay ((f - d) / x.quantum)
        (div-le-div (f - d) f x.quantum given.ready.some (omega arith)) (div-le-div (node_at w n).attrs.birth (f - d) x.quantum given.ready.some (omega arith))

    was_delay : is_delay_kind (kind_of (world_of x (f - d)) n) ≡ true
    was_delay =
        sym ((joined_in (tape_in x) given.ready.regular.valid ((f - d) / x.quantum)).delays n)
        ∙ (end_is (world_of x (f - d)).graph.value (writer_of n) writer_has.end).1 refl

    carried_fix : (k : ℕ) → IsFix ((meaning_of x).values (f - d) (writer_of n) 0 k)
    carried_fix k =
        subst IsFix (ap (λ (v : ℕ → ℕ → ℤ). v 0 k) (value_solves x.quantum (tape_in x) given.ready.some (f - d) (joined_in (tape_in x) given.ready.regular.valid ((f - d) / x.quantum)) (writer_of n) writer_has.end))
        (writer_fix x.quantum (f - d) (frames_before x (f - d)) (frame_of x (f - d)) n k was_delay)

    pub delayed_fix : muted w.graph.value (reader_of n) ≡ false → (interp : Interp) (c : ℕ)
        → IsFix (mix interp ((meaning_of x).counts ((f - d) / x.quantum) (writer_of n)) ((meaning_of x).counts (f / x.quantum) (reader_of n)) ((meaning_of x).values (f - d) (writer_of n) 0) c)
    delayed_fix loud interp c =
        mix_fix ((meaning_of x).values (f - d) (writer_of n) 0) carried_fix interp _ _ c
        (asked_count x.quantum given.ready.some (tape_in x) f (joined_in (tape_in x) given.ready.regular.valid (f / x.quantum)) n d delay loud
        (delay_long x.quantum f (frames_before x f) (frame_of x f) n) born)

-- a Fix stays what it is where it is saturated
pub sat_of_fix : (z : ℤ) → IsFix z → sat z ≡ z
sat_of_fix (pos m) is = let high = is.1 in omega (arith, ints)
sat_of_fix (negsuc m) is = let low = is.0 in omega (arith, ints)
