-- The tape that is kept of a session that completed.
use Rattle.std.proofs.Common.{ℕ, ◌≡◌, ◌*◌, ◌≤◌, ◌^◌, length, List, map, true, sym, ap, arith}
use Rattle.std.proofs.lemmas.Nat.{mul-le}
use Rattle.wa_base.specs.Contexts.{quantum_of}
use Rattle.script_ast.specs.declared.call_list.Script.{Script}
use Rattle.meaning.specs.World.{sounding}
use Rattle.derivations.specs.declared.tape.Piece.{Piece}
use Rattle.derivations.specs.Tapes.{worlds}
use Rattle.session.specs.Folders.{Folder}
use Rattle.session.specs.Rendering.{completes}
use Rattle.session.specs.Session.{session_of}
use Rattle.session.specs.Tapes.{HasTape}
use Rattle.session.proofs.Tapes.{long_alike, regular_alike}
use Rattle.explain_top.specs.Tapes.{IsTapeOf}

module _ (folder : Folder) (script : Script) (pieces : List Piece) (ended : completes (session_of folder script).end ≡ true)
    (same : map sounding (worlds pieces) ≡ map sounding (session_of folder script).tape) (has : HasTape script.context (session_of folder script)) where
  abbrev q : ℕ
  q = quantum_of script.context

  frames : q * length (worlds pieces) ≡ q * length (session_of folder script).tape
  frames = ap (λ n. q * n) (long_alike q (session_of folder script).tape (worlds pieces) (sym same))

  -- it has fewer quanta than frames
  pub few_quanta : length (worlds pieces) ≤ 2 ^ 62
  few_quanta =
      let low = (has.supported ended).quantum.low in
      let n : ℕ = length (worlds pieces) in
      let more = mul-le 1 n q n (omega (arith, low)) (omega arith) in
      let e = frames in
      let few = has.short in
      omega (arith, more, e, few)

  pub tape_of_session : IsTapeOf script.context (session_of folder script) pieces
  tape_of_session = record {
    completed = ended;
    sounds = same;
    askable = record {
      supported = has.supported ended;
      regular = regular_alike q (session_of folder script).tape (worlds pieces) (sym same) has.regular;
      short = let e = frames in let few = has.short in omega (arith, e, few);
      whole = let e = frames in let whole = has.whole ended in omega (arith, e, whole);
    };
  }
