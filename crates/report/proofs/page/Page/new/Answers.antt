-- The certifier is asked at the budget that it takes, with a list of 1,024 empty entries.
use Rattle.std.proofs.Common.{◌≡◌, ap, ◌∙◌, min, replicate, subst, rules}
use Rattle.std.proofs.lemmas.List.{length-replicate}
use Rattle.pricing.specs.Prices.{model_of}
use Rattle.paths.specs.declared.worth.Worth.{Worth}
use Rattle.walks.specs.ImageGraph.{graph_of}
use Rattle.certifier.specs.Certify.{certification, Left}
use Rattle.report.specs.Page.{left, SurveyOf}
use Rattle.report.proofs.page.Page.new.Goals as goal

pub returns-clause-answer : goal.returns-clause-answer
returns-clause-answer g c =
    let m = model_of c.args.subject.round.model.now in
    let image = c.args.subject.round.image.now in
    let budget : c.min-budget.result ≡ min (g.S.Supply.four c.args.supply).budget 100000000 = c.min-budget.ensures ∙ ap (λ n. min n 100000000) c.budget-assured.ensures in
    c.certify-answer.ensures.value ∙ ap (certification m image c.min-budget.result) (length-replicate 1024 c.default-worths.result) ∙ ap (λ b. certification m image b 1024) budget

pub returns-clause-survey : goal.returns-clause-survey
returns-clause-survey g c =
    let m = model_of c.args.subject.round.model.now in
    let image = c.args.subject.round.image.now in
    let answer = c.certify-answer.result in
    let worths = c.certify-answer.new.working in
    let none : Worth = record { price = 0; slot = 0 } in
    let empty : c.default-worths.result ≡ none = search rules in
    let told : c.then_some-left.result ≡ left answer worths = search rules in (
      worths,
      subst (λ w. Left (graph_of m image) (replicate 1024 w) worths answer) empty c.certify-answer.ensures.left,
      subst (λ l. SurveyOf m image l c.survey_of.result) told c.survey_of.ensures,
    )
