-- The calls that a session accepted so far are a front part of those of its end: what is heard, what is connected and what is created by the calls of both.
use Rattle.std.proofs.Common.{ℕ, suc, ◌≡◌, length, List, [], ◌∷◌, ◌++◌, Bool, true, false, cond, Option, None, Some, inl, inr, refl, sym, ◌∙◌, ap, subst, append_assoc}
use Rattle.std.specs.Prelude.{◌==◌, if◌then◌else◌, not, ◌&&◌, find}
use Rattle.std.specs.List.{list_any, filter_map, cons_option}
use Rattle.std.proofs.lemmas.List.{map-append}
use Rattle.std.proofs.lemmas.List.Elements.{filter_map-append}
use Rattle.std.proofs.lemmas.Bool.{eqb-true}
use Rattle.law_base.specs.Members.{IsIn, AreDistinct}
use Rattle.law_base.proofs.Members.{IsIn-append, IsIn-append_first, IsIn-append_second}
use Rattle.law_base.proofs.Tests.{not_true}
use Rattle.script_ast.specs.declared.call_list.Call.{Call}
use Rattle.script_ast.specs.WellFormed.{AreCallsAfter}
use Rattle.transcript.specs.declared.lines.Answer.{Answer}
use Rattle.transcript.specs.declared.lines.Line.{Line}
use Rattle.transcript.specs.declared.lines.Line.TheVariants as line
use Rattle.prune.proofs.Flags.{Flags, is_kept}
use Rattle.prune_script.specs.Pruned.{is_refusal, accepted_by, creates_node, touched_nodes, connections_of, connections, is_read, heard_calls}
use Rattle.prune_top.proofs.Lists.{is_among, among-IsIn, IsIn-among, AreDistinct-append}
use Rattle.prune_top.proofs.Places.{ordinals, found_call}

-- ---- a front part

-- these lines are the first of those
abbrev pub IsFront : List Line → List Line → Type 0
IsFront front lines = (more : List Line) × (lines ≡ front ++ more)

-- the calls that were made earlier, the newest first, after more calls
abbrev pub later : List Call → List Call → List Call
later earlier [] = earlier
later earlier (call ∷ calls) = later (call ∷ earlier) calls

pub later_last : (earlier calls : List Call) (call : Call) → later earlier (calls ++ call ∷ []) ≡ call ∷ later earlier calls
later_last earlier [] call = refl
later_last earlier (c ∷ cs) call = later_last (c ∷ earlier) cs call

-- ---- what is heard, connected and created

module _ (live : ℕ → Bool) where
  abbrev pub is_heard_at : List Call → Call → Bool
  is_heard_at earlier call = not (is_read call.op) && not (list_any (λ node. not (live node)) (touched_nodes earlier call))

  heard_split : (earlier xs ys : List Call) → heard_calls live earlier (xs ++ ys) ≡ heard_calls live earlier xs ++ heard_calls live (later earlier xs) ys
  heard_split earlier [] ys = refl
  heard_split earlier (x ∷ xs) ys = by_test (is_heard_at earlier x) (heard_split (x ∷ earlier) xs ys)
    where
      by_test : (b : Bool) → heard_calls live (x ∷ earlier) (xs ++ ys) ≡ heard_calls live (x ∷ earlier) xs ++ heard_calls live (later (x ∷ earlier) xs) ys
          → cond b (x.ordinal ∷ heard_calls live (x ∷ earlier) (xs ++ ys)) (heard_calls live (x ∷ earlier) (xs ++ ys))
          ≡ cond b (x.ordinal ∷ heard_calls live (x ∷ earlier) xs) (heard_calls live (x ∷ earlier) xs) ++ heard_calls live (later (x ∷ earlier) xs) ys
      by_test true e = ap (λ ns. x.ordinal ∷ ns) e
      by_test false e = e

  heard_ordinals : (earlier xs : List Call) (n : ℕ) → IsIn n (heard_calls live earlier xs) → IsIn n (ordinals xs)
  heard_ordinals earlier [] n h = absurd h
  heard_ordinals earlier (x ∷ xs) n h = by_test (is_heard_at earlier x) (heard_ordinals (x ∷ earlier) xs n) h
    where
      by_test : (b : Bool) → (IsIn n (heard_calls live (x ∷ earlier) xs) → IsIn n (ordinals xs)) → IsIn n (cond b (x.ordinal ∷ heard_calls live (x ∷ earlier) xs) (heard_calls live (x ∷ earlier) xs))
          → IsIn n (ordinals (x ∷ xs))
      by_test true more (inl e) = inl e
      by_test true more (inr k) = inr (more k)
      by_test false more k = inr (more k)

  -- whether each node that is created after the first one is live
  abbrev pub flags_of : List Call → Flags
  flags_of [] = []
  flags_of (call ∷ calls) = if creates_node call.op then live call.ordinal ∷ flags_of calls else flags_of calls

  pub flags_split : (xs ys : List Call) → flags_of (xs ++ ys) ≡ flags_of xs ++ flags_of ys
  flags_split [] ys = refl
  flags_split (x ∷ xs) ys = by_test (creates_node x.op) (flags_split xs ys)
    where
      by_test : (b : Bool) → flags_of (xs ++ ys) ≡ flags_of xs ++ flags_of ys
          → cond b (live x.ordinal ∷ flags_of (xs ++ ys)) (flags_of (xs ++ ys)) ≡ cond b (live x.ordinal ∷ flags_of xs) (flags_of xs) ++ flags_of ys
      by_test true e = ap (λ fs. live x.ordinal ∷ fs) e
      by_test false e = e

connections_split : (earlier xs ys : List Call) → connections earlier (xs ++ ys) ≡ connections earlier xs ++ connections (later earlier xs) ys
connections_split earlier [] ys = refl
connections_split earlier (x ∷ xs) ys = ap (λ made. connections_of earlier x ++ made) (connections_split (x ∷ earlier) xs ys) ∙ sym (append_assoc (connections_of earlier x) (connections (x ∷ earlier) xs) (connections (later (x ∷ earlier) xs) ys))

flag_at : (front : Flags) (flag : Bool) (rest : Flags) → is_kept (front ++ flag ∷ rest) (length front) ≡ flag
flag_at [] flag rest = refl
flag_at (f ∷ fs) flag rest = flag_at fs flag rest

-- ---- the calls that lines tell of

-- the ordinals of the calls that were made, refused or not
abbrev pub made : List Line → List ℕ
made [] = []
made (line.Call ordinal answer ∷ lines) = ordinal ∷ made lines
made (line.Resolved ordinal ∷ lines) = made lines
made (line.Ended node name ∷ lines) = made lines
made (line.Complete frames ∷ lines) = made lines

pub made_split : (xs ys : List Line) → made (xs ++ ys) ≡ made xs ++ made ys
made_split [] ys = refl
made_split (line.Call ordinal answer ∷ xs) ys = ap (λ ns. ordinal ∷ ns) (made_split xs ys)
made_split (line.Resolved ordinal ∷ xs) ys = made_split xs ys
made_split (line.Ended node name ∷ xs) ys = made_split xs ys
made_split (line.Complete frames ∷ xs) ys = made_split xs ys

module _ (calls : List Call) where
  abbrev pub accepted : List Line → List Call
  accepted lines = filter_map (accepted_by calls) lines

  pub accepted_split : (xs ys : List Line) → accepted (xs ++ ys) ≡ accepted xs ++ accepted ys
  accepted_split xs ys = filter_map-append (accepted_by calls) xs ys

  found_ordinal : (cs : List Call) (n : ℕ) (c : Call) → find (λ call. call.ordinal == n) cs ≡ Some c → c.ordinal ≡ n
  found_ordinal [] n c is = absurd cc
  found_ordinal (x ∷ xs) n c is = by_test (x.ordinal == n) refl (found_ordinal xs n c) is
    where
      by_test : (b : Bool) → (x.ordinal == n) ≡ b → (find (λ call. call.ordinal == n) xs ≡ Some c → c.ordinal ≡ n) → cond b (Some x) (find (λ call. call.ordinal == n) xs) ≡ Some c → c.ordinal ≡ n
      by_test true e more found = let same : x ≡ c = cc in ap (λ (y : Call). y.ordinal) (sym same) ∙ eqb-true x.ordinal n e
      by_test false e more found = more found

  -- an accepted call was made
  accepted_made : (lines : List Line) (n : ℕ) → IsIn n (ordinals (accepted lines)) → IsIn n (made lines)
  accepted_made [] n h = absurd h
  accepted_made (line.Call ordinal answer ∷ lines) n h = by_test (is_refusal answer) (find (λ call. call.ordinal == ordinal) calls) refl (accepted_made lines n) h
    where
      by_test : (b : Bool) (o : Option Call) → find (λ call. call.ordinal == ordinal) calls ≡ o → (IsIn n (ordinals (accepted lines)) → IsIn n (made lines))
          → IsIn n (ordinals (cons_option (if b then None else o) (accepted lines))) → IsIn n (ordinal ∷ made lines)
      by_test true o found more k = inr (more k)
      by_test false None found more k = inr (more k)
      by_test false (Some c) found more (inl e) = inl (e ∙ found_ordinal calls ordinal c found)
      by_test false (Some c) found more (inr k) = inr (more k)
  accepted_made (line.Resolved ordinal ∷ lines) n h = accepted_made lines n h
  accepted_made (line.Ended node name ∷ lines) n h = accepted_made lines n h
  accepted_made (line.Complete frames ∷ lines) n h = accepted_made lines n h

  -- ---- a call among those of the whole session

  module _ (after : AreCallsAfter 0 calls) (before : List Line) (call : Call) (there : IsIn call calls) (answer : Answer) where
    -- it is accepted where its answer is no refusal
    pub accepted_here : is_refusal answer ≡ false → accepted (before ++ line.Call call.ordinal answer ∷ []) ≡ accepted before ++ call ∷ []
    accepted_here fine = accepted_split before (line.Call call.ordinal answer ∷ []) ∙ ap (λ cs. accepted before ++ cs) (rw (fine, found_call 0 calls after call there) refl)

    pub refused_here : is_refusal answer ≡ true → accepted (before ++ line.Call call.ordinal answer ∷ []) ≡ accepted before
    refused_here refused = accepted_split before (line.Call call.ordinal answer ∷ []) ∙ ap (λ cs. accepted before ++ cs) (rw refused refl) ∙ no_more (accepted before)
      where
        no_more : (cs : List Call) → cs ++ [] ≡ cs
        no_more [] = refl
        no_more (c ∷ cs) = ap (λ ds. c ∷ ds) (no_more cs)

    module _ (live : ℕ → Bool) (more : List Line) (once : AreDistinct (made (before ++ line.Call call.ordinal answer ∷ more))) where
      abbrev whole : List Line
      whole = before ++ line.Call call.ordinal answer ∷ more

      parts : AreDistinct (made before) × AreDistinct (call.ordinal ∷ made more) × ((n : ℕ) → IsIn n (made before) → IsIn n (call.ordinal ∷ made more) → ⊥)
      parts = AreDistinct-append (made before) (call.ordinal ∷ made more) (subst (λ (ns : List ℕ). AreDistinct ns) (made_split before (line.Call call.ordinal answer ∷ more)) once)

      not_before : IsIn call.ordinal (ordinals (accepted before)) → ⊥
      not_before h = parts.2 call.ordinal (accepted_made before call.ordinal h) (inl refl)

      not_after : IsIn call.ordinal (ordinals (accepted more)) → ⊥
      not_after h = parts.1.0 (accepted_made more call.ordinal h)

      abbrev heard : List ℕ
      heard = heard_calls live [] (accepted whole)

      abbrev earlier : List Call
      earlier = later [] (accepted before)

      -- where it is refused it is not heard
      pub refused_unheard : is_refusal answer ≡ true → is_among call.ordinal heard ≡ false
      refused_unheard refused = not_true (is_among call.ordinal heard) (λ t.
          let h : IsIn call.ordinal (ordinals (accepted whole)) = heard_ordinals live [] (accepted whole) call.ordinal (IsIn-among call.ordinal heard t) in
          let split : accepted whole ≡ accepted before ++ accepted more = accepted_split before (line.Call call.ordinal answer ∷ more) ∙ ap (λ cs. accepted before ++ cs) (rw refused refl) in
          elim (IsIn-append (ordinals (accepted before)) (ordinals (accepted more)) call.ordinal (subst (λ (ns : List ℕ). IsIn call.ordinal ns) (map-append (λ (c : Call). c.ordinal) (accepted before) (accepted more)) (subst (λ cs. IsIn call.ordinal (ordinals cs)) split h))) [
            | inl k ↦ not_before k
            | inr k ↦ not_after k
          ])

      split_here : is_refusal answer ≡ false → accepted whole ≡ accepted before ++ call ∷ accepted more
      split_here fine = accepted_split before (line.Call call.ordinal answer ∷ more) ∙ ap (λ cs. accepted before ++ cs) (rw (fine, found_call 0 calls after call there) refl)

      heard_here : is_refusal answer ≡ false → heard ≡ heard_calls live [] (accepted before) ++ heard_calls live earlier (call ∷ accepted more)
      heard_here fine = ap (heard_calls live []) (split_here fine) ∙ heard_split live [] (accepted before) (call ∷ accepted more)

      -- where it is accepted it is heard if it does more than read, and touches live nodes alone
      pub accepted_heard : is_refusal answer ≡ false → is_among call.ordinal heard ≡ is_heard_at live earlier call
      accepted_heard fine = ap (is_among call.ordinal) (heard_here fine) ∙ by_test (is_heard_at live earlier call)
        where
          by_test : (b : Bool)
              → is_among call.ordinal (heard_calls live [] (accepted before) ++ cond b (call.ordinal ∷ heard_calls live (call ∷ earlier) (accepted more)) (heard_calls live (call ∷ earlier) (accepted more))) ≡ b
          by_test true = among-IsIn call.ordinal _ (IsIn-append_second (heard_calls live [] (accepted before)) (call.ordinal ∷ heard_calls live (call ∷ earlier) (accepted more)) call.ordinal (inl refl))
          by_test false = not_true (is_among call.ordinal (heard_calls live [] (accepted before) ++ heard_calls live (call ∷ earlier) (accepted more))) (λ t.
              elim (IsIn-append (heard_calls live [] (accepted before)) (heard_calls live (call ∷ earlier) (accepted more)) call.ordinal (IsIn-among call.ordinal _ t)) [
                | inl k ↦ not_before (heard_ordinals live [] (accepted before) call.ordinal k)
                | inr k ↦ not_after (heard_ordinals live (call ∷ earlier) (accepted more) call.ordinal k)
              ])

      -- what it connects is among all that is connected
      pub connected_here : is_refusal answer ≡ false → (c : ℕ × ℕ) → IsIn c (connections_of earlier call) → IsIn c (connections [] (accepted whole))
      connected_here fine c h =
          subst (λ (made : List (ℕ × ℕ)). IsIn c made) (sym (ap (connections []) (split_here fine) ∙ connections_split [] (accepted before) (call ∷ accepted more)))
          (IsIn-append_second (connections [] (accepted before)) (connections earlier (call ∷ accepted more)) c (IsIn-append_first (connections_of earlier call) (connections (call ∷ earlier) (accepted more)) c h))

      -- the flag of the node that it creates
      pub flag_here : is_refusal answer ≡ false → creates_node call.op ≡ true → (first : Bool) → is_kept (first ∷ flags_of live (accepted whole)) (suc (length (flags_of live (accepted before)))) ≡ live call.ordinal
      flag_here fine created first =
          ap (λ fs. is_kept (first ∷ fs) (suc (length (flags_of live (accepted before)))))
          (ap (flags_of live) (split_here fine) ∙ flags_split live (accepted before) (call ∷ accepted more)
          ∙ ap (λ b. flags_of live (accepted before) ++ (if b then live call.ordinal ∷ flags_of live (accepted more) else flags_of live (accepted more))) created)
          ∙ flag_at (flags_of live (accepted before)) (live call.ordinal) (flags_of live (accepted more))
