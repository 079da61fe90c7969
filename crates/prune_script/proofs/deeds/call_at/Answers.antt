use Rattle.std.proofs.Common.{◌≡◌, ◌+◌, sym, ◌∙◌, ap, subst, arith}
use Rattle.std.specs.Prelude.{◌==◌, find, slice_get, option_map}
use Rattle.std.proofs.lemmas.Option.{IfSome_then}
use Rattle.script_ast.specs.declared.call_list.Call.{Call}
use Rattle.prune_script.proofs.Calls.{find_none, find_call, found_is, found_call}
use Rattle.prune_script.proofs.deeds.call_at.Goals as goal

pub returns-in_err-checked_sub-clause-call : goal.returns-in_err-checked_sub-clause-call
returns-in_err-checked_sub-clause-call c =
    ap (option_map (λ call. call.now)) c.from_residual.ensures ∙ sym (find_none 0 c.args.ordinal c.args.calls.now (let h = c.in_err-checked_sub.ensures in grind arith) c.requires)

pub returns-clause-call : goal.returns-clause-call
returns-clause-call c =
    let k = c.in_ok-checked_sub.field-0 in
    let at : 0 + 1 + k ≡ c.args.ordinal = let h = c.in_ok-checked_sub.ensures in omega arith in
    found_is (λ call. call.now) c.args.calls.now k c.get.result c.get.ensures.lookup.3
    ∙ sym (subst (λ n. find (λ (call : Call). call.ordinal == n) c.args.calls.now ≡ slice_get c.args.calls.now k) at (find_call 0 k c.args.calls.now c.requires))

pub returns-clause-range : goal.returns-clause-range
returns-clause-range c = IfSome_then c.get.result (found_call (λ call. call.now) c.args.calls.now c.in_ok-checked_sub.field-0 c.get.result c.requires c.get.ensures.lookup.3) (λ call h. h.0.2)

pub returns-clause-low : goal.returns-clause-low
returns-clause-low c = IfSome_then c.get.result (found_call (λ call. call.now) c.args.calls.now c.in_ok-checked_sub.field-0 c.get.result c.requires c.get.ensures.lookup.3) (λ call h. let e = h.0.0 in let l = h.1 in omega arith)
