use Rattle.std.proofs.Common.{◌≡◌, slice_index_or, sym, ◌∙◌, ap, subst}
use Rattle.std.proofs.lemmas.List.{get_or_default}
use Rattle.law_base.specs.Members.{IsIn}
use Rattle.meaning.specs.declared.params.Param.{Param}
use Rattle.automation.specs.Levels.{HasRoom, no_level}
use Rattle.automation.specs.Ready.{param_of}
use Rattle.automation.proofs.Places.{in_list}
use Rattle.automation.proofs.Stands.{keeps_level, rests_there, takes_level}
use Rattle.automation.proofs.automation.Running.take.Goals as goal

pub bounds-levels-node : goal.bounds-levels-node
bounds-levels-node g c =
    let params = c.args.params.now in
    let p : Param = c.index-params-self.result in
    let is = subst (λ n. p ≡ slice_index_or params n p) (ap param_of c.self.view_is) c.index-params-self.is in
    (c.requires.room p (subst (λ (x : Param). IsIn x params) (sym is) (in_list params _ p c.requires.param))).0

pub take-requires-clause-room : goal.take-requires-clause-room
take-requires-clause-room g c =
    let params = c.args.params.now in
    let p : Param = c.index-params-self.result in
    let is = subst (λ n. p ≡ slice_index_or params n p) (ap param_of c.self.view_is) c.index-params-self.is in
    let room = c.requires.room p (subst (λ (x : Param). IsIn x params) (sym is) (in_list params _ p c.requires.param)) in
    subst (HasRoom c.args.frames) (get_or_default c.args.levels.now p.id.node.0 no_level c.index-levels-node.result room.0) room.1

pub returns-in-Until-clause-level : goal.returns-in-Until-clause-level
returns-in-Until-clause-level g c d =
    let params = c.args.params.now in
    let p : Param = c.index-params-self.result in
    let is = subst (λ n. p ≡ slice_index_or params n p) (ap param_of c.self.view_is) c.index-params-self.is in
    let room = c.requires.room p (subst (λ (x : Param). IsIn x params) (sym is) (in_list params _ p c.requires.param)) in
    takes_level c.args.frames c.args.first params c.args.levels.now p c.take.new.self room.0 c.take.ensures.level _ (is ∙ get_or_default params _ p d c.requires.param)

pub returns-in-Until-clause-rests : goal.returns-in-Until-clause-rests
returns-in-Until-clause-rests g c =
    let params = c.args.params.now in
    let p : Param = c.index-params-self.result in
    let same = ap param_of c.self.view_is in
    let is = subst (λ n. p ≡ slice_index_or params n p) same c.index-params-self.is in
    let room = c.requires.room p (subst (λ (x : Param). IsIn x params) (sym is) (in_list params _ p c.requires.param)) in
    rests_there c.args.frames c.args.first params c.args.levels.now p c.take.new.self room.0 _ c.in-Until.ensures.lasts.0 c.in-Until.ensures.lasts.1
    (λ d. is ∙ get_or_default params _ p d c.requires.param ∙ ap (λ n. slice_index_or params n d) (sym same))

pub returns-in-Ever-clause-level : goal.returns-in-Ever-clause-level
returns-in-Ever-clause-level g c d =
    let params = c.args.params.now in
    let p : Param = c.index-params-self.result in
    let is = subst (λ n. p ≡ slice_index_or params n p) (ap param_of c.self.view_is) c.index-params-self.is in
    let room = c.requires.room p (subst (λ (x : Param). IsIn x params) (sym is) (in_list params _ p c.requires.param)) in
    takes_level c.args.frames c.args.first params c.args.levels.now p c.take.new.self room.0 c.take.ensures.level _ (is ∙ get_or_default params _ p d c.requires.param)

pub returns-in-Ever-clause-keeps : goal.returns-in-Ever-clause-keeps
returns-in-Ever-clause-keeps g c last d =
    let params = c.args.params.now in
    let p : Param = c.index-params-self.result in
    let is = subst (λ n. p ≡ slice_index_or params n p) (ap param_of c.self.view_is) c.index-params-self.is in
    let room = c.requires.room p (subst (λ (x : Param). IsIn x params) (sym is) (in_list params _ p c.requires.param)) in
    keeps_level c.args.frames c.args.first params c.args.levels.now p c.take.new.self room.0 c.in-Ever.ensures.lasts _ (is ∙ get_or_default params _ p d c.requires.param)
