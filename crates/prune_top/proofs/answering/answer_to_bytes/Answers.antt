use Rattle.std.proofs.Common.{◌≡◌, Err, refl, ap, rules, arith}
use Rattle.script_json.specs.Script.{script_of}
use Rattle.answers.specs.FaultLine.{fault_line}
use Rattle.prune_top.specs.Answer.{without_file}
use Rattle.prune_top.specs.Run.{is_of_script}
use Rattle.prune_top.specs.declared.status.Status.TheVariants.{BadScript}
use Rattle.prune_top.proofs.Telling.{answered_fault}
use Rattle.prune_top.proofs.answering.answer_to_bytes.Goals as goal

pub returns-in_ok-without_file-in-Err : goal.returns-in_ok-without_file-in-Err
returns-in_ok-without_file-in-Err g c =
    let fault : script_of c.args.bytes ≡ Err c.in-Err.fault = search rules in
    let is : c.in_ok-without_file-in-Err.field-0 ≡ without_file BadScript (fault_line c.in-Err.fault) = search rules in
    record {
      ok = answered_fault (g.F.Files.tells c.args.files.now) (g.F.Files.paths c.args.files.now) c.args.out.now c.args.bytes _ c.in-Err.fault fault is;
      status = ap (λ a. is_of_script a.status) is;
      fault = λ wrong. absurd cc;
      cause = λ wrong. absurd cc;
      tells = refl;
      paths = λ told q. refl;
      later = omega arith;
      writes = refl;
    }
