-- What is drawn, one voice after another, and how many calls the voices have.
use Rattle.std.proofs.Common.{◌≡◌, ◌≤◌, ℕ, suc, zero, List, [], ◌∷◌, ◌++◌, ◌+◌, ◌*◌, ap, ◌∙◌, length, arith, Bool, true, false, if◌then◌else◌, ◌==◌, ◌%◌}
use Rattle.std.specs.Prelude.{codes}
use Rattle.std.proofs.lemmas.List.{length-append}
use Rattle.script_ast.specs.declared.operations.Op.{Op}
use Rattle.load_gen.specs.Voices.{Voice, state_after, next_state, voice, voice_ops, ramp_ops, way_ops, delay_ops, time_ops, ops_of_voices, connected, gain}

-- draws and more draws
pub draws_after : (more draws seed : ℕ) → state_after more (state_after draws seed) ≡ state_after (more + draws) seed
draws_after zero draws seed = let none : draws ≡ 0 + draws = omega arith in ap (λ n. state_after n seed) none
draws_after (suc more) draws seed =
    let next : suc (more + draws) ≡ suc more + draws = omega arith in
    ap next_state (draws_after more draws seed) ∙ ap (λ n. state_after n seed) next

-- the four draws of a voice
pub next_four : (place seed : ℕ) → state_after 4 (state_after (4 * place) seed) ≡ state_after (4 * (place + 1)) seed
next_four place seed =
    let four : 4 + 4 * place ≡ 4 * (place + 1) = omega arith in
    draws_after 4 (4 * place) seed ∙ ap (λ n. state_after n seed) four

length_either : (b : Bool) (xs ys : List Op) (n : ℕ) → length xs ≤ n → length ys ≤ n → length (if b then xs else ys) ≤ n
length_either true xs ys n h k = h
length_either false xs ys n h k = k

voice_length : (v : Voice) → length (voice_ops v) ≤ 13
voice_length v =
    let other : List Op = connected (gain v.place) (codes "destination") ∷ [] in
    let way : length (way_ops v) ≤ 6 = length_either (v.place % 8 == 7) (delay_ops v) other 6 (omega arith) (omega arith) in
    let behind = length-append (way_ops v) (time_ops v) in
    let all = length-append (ramp_ops v) (way_ops v ++ time_ops v) in
    omega (arith, way, behind, all)

pub voices_length : (seed voices : ℕ) → length (ops_of_voices seed voices) ≤ 13 * voices
voices_length seed zero = omega arith
voices_length seed (suc voices) =
    let long = length-append (ops_of_voices seed voices) (voice_ops (voice seed voices)) in
    omega (arith, long, voices_length seed voices, voice_length (voice seed voices))
