use Rattle.std.proofs.Common.{ap, sym, ◌∙◌, arith, subst}
use Rattle.std.proofs.lemmas.List.{length-set}
use Rattle.law_base.specs.Members.{IsIn}
use Rattle.meaning.specs.declared.params.Param.{Param}
use Rattle.automation.specs.Levels.{HasRoom, level_of}
use Rattle.automation.proofs.Places.{place_of, in_list, room_more}
use Rattle.automation.proofs.automation.reserve_each.Goals as goal

pub bounds-levels-node : goal.bounds-levels-node
bounds-levels-node c =
    let p = c.param-item.result in
    let low = c.requires.there p (subst (λ (x : Param). IsIn x c.args.params.now) (sym c.param-item.is) (in_list c.args.params.now c.loop-param.param-index p c.loop-param-test.true)) in
    omega (arith, low, c.loop-param.invariant.long)

pub loop-param-preserved : goal.loop-param-preserved
loop-param-preserved c =
    let i = c.loop-param.param-index in
    let inv = c.loop-param.invariant in
    let params = c.args.params.now in
    let p : Param = c.param-item.result in
    let within = c.loop-param-test.true in
    let low = c.requires.there p (subst (λ (x : Param). IsIn x params) (sym c.param-item.is) (in_list params i p within)) in
    record {
      long = length-set c.loop-param.levels p.id.node.0 c.reserve.new.self ∙ inv.long;
      room = room_more c.args.frames c.loop-param.levels p.id.node.0 c.reserve.new.self (omega (arith, low, inv.long)) params i p c.in_ok-reserve.ensures (ap (λ (x : Param). x.id.node.0) c.param-item.is) inv.room within;
    }

pub returns-clause-room : goal.returns-clause-room
returns-clause-room c p is =
    let found = place_of c.args.params.now p is in
    subst (λ (x : Param). HasRoom c.args.frames (level_of c.loop-param.levels x.id.node.0)) (found.2 p) (c.loop-param.invariant.room found.0 p (omega (arith, found.1, c.loop-param-test.false)))
