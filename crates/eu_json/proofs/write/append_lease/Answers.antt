use Rattle.std.proofs.Common.{◌≡◌, ℕ, List, subst, [], ◌∷◌, ◌++◌, codes, decimal, ap, ◌∙◌}
use Rattle.std.specs.Fmt.{digits}
use Rattle.json.specs.Print.{escape_byte}
use Rattle.eu_json.proofs.write.append_lease.Goals as goal
use Rattle.eu_json.proofs.write.append_lease.Goals.{in-None+in_ok-append_number-in-None, in-Some+in_ok-append_number-in-Some+in_ok-append_number-in-Some-2+in_ok-append_number-in-Some-3+in_ok-append_number-in-Some-4}

pub returns : goal.returns
unfolding escape_byte digits
returns c =
    let first = subst (λ n. (s : List ℕ) → c.append_number.new.out.items ++ s ≡ c.args.out.now.items ++ (codes "{\"durationInSecs\":" ++ (decimal n ++ s))) (c.from-secs.ensures ∙ c.secs-2.ensures.value ∙ c.secs.ensures) c.in_ok-append_number.ensures in
    elim c.match-times.branch [
      | in-None+in_ok-append_number-in-None w ↦
          (let last = subst (λ n. (s : List ℕ) → w.append_number-in-None.new.out.items ++ s ≡ c.append_number.new.out.items ++ (codes ",\"renewalIntervalInSecs\":" ++ (decimal n ++ s))) (c.from-interval.ensures ∙ c.secs-3.ensures.value ∙ c.interval.ensures) w.in_ok-append_number-in-None.ensures in
          let text = c.in_ok-extend_from_slice.ensures.items ∙ ap (λ v. v.items ++ 125 ∷ []) w.out-is ∙ last (125 ∷ []) ∙ first _ in
          rw w.in-None.is text)
      | in-Some+in_ok-append_number-in-Some+in_ok-append_number-in-Some-2+in_ok-append_number-in-Some-3+in_ok-append_number-in-Some-4 w ↦
          (let third = subst (λ n. (s : List ℕ) → w.append_number-in-Some-3.new.out.items ++ s ≡ w.append_number-in-Some-2.new.out.items ++ (codes ",\"renewalIntervalInSecs\":" ++ (decimal n ++ s))) (c.from-interval.ensures ∙ c.secs-3.ensures.value ∙ c.interval.ensures) w.in_ok-append_number-in-Some-3.ensures in
          let text = c.in_ok-extend_from_slice.ensures.items ∙ ap (λ v. v.items ++ 125 ∷ []) w.out-is ∙ w.in_ok-append_number-in-Some-4.ensures (125 ∷ []) ∙ third _ ∙ w.in_ok-append_number-in-Some-2.ensures _ ∙ w.in_ok-append_number-in-Some.ensures _ ∙ first _ in
          rw w.in-Some.is text)
    ]
