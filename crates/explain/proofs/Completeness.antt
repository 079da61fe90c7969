-- A true fact follows where all that it needs stands.
use Rattle.std.proofs.Common.{ℕ, pos, ◌≡◌, ◌/◌, ◌<◌, ◌≤◌, ◌⊎◌, length, List, [], ◌∷◌, ◌++◌, inl, inr, refl, sym, ◌∙◌, ap, ap₂, subst, arith}
use Rattle.std.proofs.lemmas.List.{length-map}
use Rattle.wa_base.specs.declared.graph_names.End.{End}
use Rattle.law_base.specs.Members.{IsIn}
use Rattle.conn_graph.specs.Graph.{edges_to_input}
use Rattle.conn_graph.specs.Ends.{ends}
use Rattle.conn_graph.proofs.EndLaws.{end_is}
use Rattle.meaning.specs.declared.world.World.{World}
use Rattle.meaning.specs.World.{no_world}
use Rattle.meaning.specs.Validity.{ports_of}
use Rattle.meaning.specs.Counts.{world_in}
use Rattle.meaning.specs.Values.{world_at}
use Rattle.meaning.specs.Worlds.{IsRegular}
use Rattle.explain.specs.declared.facts.Key.{Key}
use Rattle.explain.specs.declared.facts.Key.TheVariants.{Count, Inlet, Par, Hist, Out}
use Rattle.explain.specs.declared.facts.Fact.{Fact}
use Rattle.explain.specs.Accounts.{Account, meant, value_by_equation, cells_in, derived, means}
use Rattle.explain.specs.Facts.{IsKeyOf, IsFactOf}
use Rattle.explain.specs.Needs.{needs}
use Rattle.explain.specs.Checked.{Holds, AllHold, Stands, Follows, FollowOn}
use Rattle.explain.proofs.Soundness.{meaning_solves, follower_holds}
use Rattle.explain.proofs.Lives.{lives}
use Rattle.explain.proofs.Agreeing.{Alike, AllAlike, same_input, same_connections, same_param, same_param_needs, same_counted}
use Rattle.explain.proofs.Hearing.{birth_at, same_history, same_history_cells, same_history_needs}
use Rattle.explain.proofs.Outputs.{same_output, same_output_needs}

module _ (q : ℕ) (some : 0 < q) (tape : List World) (regular : IsRegular q tape) where
  -- the node of an end is there
  node_there : (j : ℕ) → j < length tape → (e : End) → IsIn e (ends (world_in tape j).graph.value) → e.node.0 < length (world_in tape j).nodes
  node_there j short e is =
      let l = (end_is (world_in tape j).graph.value e is).0 in
      let same : length (world_in tape j).graph.value.nodes ≡ length (world_in tape j).nodes =
      ap length (regular.valid j no_world short).ports ∙ length-map (world_in tape j).nodes ports_of in
      omega (arith, l, same)

  born_by : (f : ℕ) → f / q < length tape → (e : End) → IsIn e (ends (world_at q tape f).graph.value) → birth_at q tape f e.node.0 ≤ f
  born_by f short e is = let l = (lives q some tape regular e.node.0 (f / q) short (node_there (f / q) short e is)).born in omega (arith, l)

  -- two accounts that have in common what a key needs have its needs in common, and what its equation gives
  same_needs : (a b : Account) (key : Key) → IsKeyOf q tape key → AllAlike q tape a b (needs q tape b key) → needs q tape a key ≡ needs q tape b key
  unfolding needs
  same_needs a b (Count j e o) is all = refl
  same_needs a b (Inlet f e i c) is all = same_connections q tape a b f (edges_to_input (world_at q tape f).graph.value e.node.0 i) all
  same_needs a b (Par f node name) is all = same_param_needs q tape a b f node.0 name all
  same_needs a b (Hist f node c) is all = same_history_needs q some tape regular a b f node.0 c is.quantum is.place.0 all
  same_needs a b (Out f e o c) is all = same_output_needs q some tape regular a b f e o c is.place.0.end (born_by f is.quantum e is.place.0.end) all

  same_value_given : (a b : Account) (key : Key) → IsKeyOf q tape key → AllAlike q tape a b (needs q tape b key) → value_by_equation q tape a key ≡ value_by_equation q tape b key
  unfolding needs
  same_value_given a b (Count j e o) is all = ap pos (same_counted q tape a b j e all)
  same_value_given a b (Inlet f e i c) is all = same_input q tape a b f e.node.0 i c all
  same_value_given a b (Par f node name) is all = same_param q tape a b f node.0 name all
  same_value_given a b (Hist f node c) is all = same_history q some tape regular a b f node.0 c is.quantum is.place.0 all
  same_value_given a b (Out f e o c) is all = same_output q some tape regular a b f e o c is.place.0.end (born_by f is.quantum e is.place.0.end) all

  same_cells_given : (a b : Account) (key : Key) → IsKeyOf q tape key → AllAlike q tape a b (needs q tape b key) → cells_in q tape a key ≡ cells_in q tape b key
  unfolding needs
  same_cells_given a b (Count j e o) is all = refl
  same_cells_given a b (Inlet f e i c) is all = refl
  same_cells_given a b (Par f node name) is all = refl
  same_cells_given a b (Hist f node c) is all = same_history_cells q some tape regular a b f node.0 c is.quantum is.place.0 all
  same_cells_given a b (Out f e o c) is all = refl

  same_given : (a b : Account) (key : Key) → IsKeyOf q tape key → AllAlike q tape a b (needs q tape b key) → derived q tape a key ≡ derived q tape b key
  same_given a b key is all =
      ap₂ (λ value cells. let x : Fact = record { key = key; value = value; cells = cells } in x) (same_value_given a b key is all) (same_cells_given a b key is all)

  -- a key that stands among facts that hold in two accounts
  alike : (a b : Account) (before : List Fact) → AllHold q tape a before → AllHold q tape b before → (key : Key) → Stands key before → Alike q tape a b key
  alike a b before in_a in_b key (x, is, same) =
      let left = in_a x is in
      let right = in_b x is in
      subst (Alike q tape a b) same (record { left = left.given ∙ sym left.said; right = right.given ∙ sym right.said; same = left.said ∙ sym right.said })

  pub follows : (before : List Fact) → AllHold q tape (meant q tape) before → (x : Fact) → IsFactOf q tape x → means q tape x.key ≡ x
      → ((key : Key) → IsIn key (needs q tape (meant q tape) x.key) → Stands key before) → Follows q tape before x
  follows before true x form is standing = record {
    form = form;
    needed = λ a all key h. standing key (subst (IsIn key) (same_needs a (meant q tape) x.key form.key (in_common a all)) h);
    given = λ a all. same_given a (meant q tape) x.key form.key (in_common a all) ∙ meaning_solves q some tape regular x.key form.key ∙ is;
  }
    where
      in_common : (a : Account) → AllHold q tape a before → AllAlike q tape a (meant q tape) (needs q tape (meant q tape) x.key)
      in_common a all key h = alike a (meant q tape) before all true key (standing key h)

  -- such a fact may stand behind a checked list
  pub longer : (before xs : List Fact) → AllHold q tape (meant q tape) before → FollowOn q tape before xs → (x : Fact) → IsFactOf q tape x → means q tape x.key ≡ x
      → ((key : Key) → IsIn key (needs q tape (meant q tape) x.key) → Stands key before ⊎ Stands key xs) → FollowOn q tape before (xs ++ x ∷ [])
  longer before [] true on x form is standing = (follows before true x form is (λ key h. elim (standing key h) [ inl there ↦ there | inr none ↦ absurd none.1 ]), tt)
  longer before (y ∷ ys) true on x form is standing = (on.0, longer (y ∷ before) ys more on.1 x form is (λ key h. moved key (standing key h)))
    where
      more : AllHold q tape (meant q tape) (y ∷ before)
      more z (inl same) = subst (Holds q tape (meant q tape)) (sym same) (follower_holds q some tape regular before true y on.0)
      more z (inr h) = true z h

      moved : (key : Key) → Stands key before ⊎ Stands key (y ∷ ys) → Stands key (y ∷ before) ⊎ Stands key ys
      moved key (inl there) = inl (there.0, inr there.1, there.2)
      moved key (inr (z, inl same, e)) = inl (z, inl same, e)
      moved key (inr (z, inr h, e)) = inr (z, h, e)
