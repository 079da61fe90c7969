-- Every script has as many calls as that of 0: what is drawn does not touch their number.
use Rattle.std.proofs.Common.{◌≡◌, ℕ, suc, zero, Bool, true, false, [], ◌∷◌, ◌++◌, ◌+◌, refl, sym, ap, ◌∙◌, length, arith}
use Rattle.std.specs.Prelude.{codes, pos, ◌%◌, ◌==◌, if◌then◌else◌}
use Rattle.std.proofs.lemmas.List.{length-append}
use Rattle.script_ast.specs.declared.operations.Op.TheVariants.{Suspend, StartRendering}
use Rattle.load_gen.specs.Generator.{in_list, ops_before, held_ops, calls}
use Rattle.load_gen.specs.Voices.{Voice, voice, gain, connected, ramp_ops, delay_ops, way_ops, time_ops, voice_ops, ops_of_voices}
use Rattle.load_gen.proofs.Listing.{in_list_length}
use Rattle.load_gen.proofs.FirstDraws.{calls_of_zero}

way_length : (delayed : Bool) (v : Voice) → length (if delayed then delay_ops v else connected (gain v.place) (codes "destination") ∷ []) ≡ (if delayed then 6 else 1)
way_length true v = refl
way_length false v = refl

-- by the voice's place alone
voice_length : (v : Voice) → length (voice_ops v) ≡ 5 + ((if v.place % 8 == 7 then 6 else 1) + 2)
voice_length v =
    length-append (ramp_ops v) (way_ops v ++ time_ops v)
    ∙ ap (λ n. 5 + n) (length-append (way_ops v) (time_ops v) ∙ ap (λ n. n + 2) (way_length (v.place % 8 == 7) v))

as_many : (seed voices : ℕ) → length (ops_of_voices seed voices) ≡ length (ops_of_voices 0 voices)
as_many seed zero = refl
as_many seed (suc voices) =
    length-append (ops_of_voices seed voices) (voice_ops (voice seed voices))
    ∙ ap (λ n. n + length (voice_ops (voice seed voices))) (as_many seed voices)
    ∙ ap (λ n. length (ops_of_voices 0 voices) + n) (voice_length (voice seed voices) ∙ sym (voice_length (voice 0 voices)))
    ∙ sym (length-append (ops_of_voices 0 voices) (voice_ops (voice 0 voices)))

-- behind the voices come the suspension, what it holds, and the start of the rendering
by_voices : (seed : ℕ) → length (calls seed) ≡ length (ops_of_voices seed 200) + 43
unfolding calls
by_voices seed =
    let before = ops_before seed in
    let held = in_list (length before + 1) (length before) held_ops in
    let last = in_list (length before + length held_ops + 1) 0 (StartRendering ∷ []) in
    let all = length-append (in_list 1 0 before) (held ++ last) in
    let behind = length-append held last in
    let first = in_list_length 1 0 before in
    let holds = in_list_length (length before + 1) (length before) held_ops in
    let voices = length-append (ops_of_voices seed 200) (Suspend (pos 240000) ∷ []) in
    omega (arith, all, behind, first, holds, voices)

pub calls_counted : (seed : ℕ) → length (calls seed) ≡ 1768
calls_counted seed = by_voices seed ∙ ap (λ n. n + 43) (as_many seed 200) ∙ sym (by_voices 0) ∙ calls_of_zero
