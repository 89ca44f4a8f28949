use Rattle.std.proofs.Common.{◌≡◌, ◌≤◌, ◌<◌, ◌∙◌, ap, arith, length}
use Rattle.std.proofs.lemmas.Result.{IfOk-weaker}
use Rattle.byte_texts.specs.Parts.{parts}
use Rattle.command_words.proofs.Addressing.{few_of_few, few_written, ports_written, some_written, texts, too_many}
use Rattle.command_words.proofs.addresses.addresses_in.Goals as goal

pub returns-then-words-gt-MAX_ADDRESSES-clause-written : goal.returns-then-words-gt-MAX_ADDRESSES-clause-written
returns-then-words-gt-MAX_ADDRESSES-clause-written c =
    let are : texts c.as_slice-words.result.now ≡ parts 44 c.args.text.now = ap texts c.as_slice-words.ensures.value
    ∙ c.in_ok-parts.ensures in
    let many : 8 < length c.as_slice-words.result.now = omega arith in
    too_many c.args.text.now c.as_slice-words.result.now are many

pub returns-clause-written : goal.returns-clause-written
returns-clause-written c =
    let are : texts c.as_slice-words.result.now ≡ parts 44 c.args.text.now = ap texts c.as_slice-words.ensures.value
    ∙ c.in_ok-parts.ensures in
    let few : length c.as_slice-words.result.now ≤ 8 = omega arith in
    IfOk-weaker c.each_address.result _ _ (λ o written. few_written c.args.text.now c.as_slice-words.result.now are (λ v. v.items) o few written) c.each_address.ensures.written

pub returns-clause-some : goal.returns-clause-some
returns-clause-some c =
    let are : texts c.as_slice-words.result.now ≡ parts 44 c.args.text.now = ap texts c.as_slice-words.ensures.value
    ∙ c.in_ok-parts.ensures in
    IfOk-weaker c.each_address.result _ _ (λ o written. some_written c.args.text.now c.as_slice-words.result.now are (λ v. v.items) o written) c.each_address.ensures.written

pub returns-clause-few : goal.returns-clause-few
returns-clause-few c =
    let are : texts c.as_slice-words.result.now ≡ parts 44 c.args.text.now = ap texts c.as_slice-words.ensures.value
    ∙ c.in_ok-parts.ensures in
    let few : length c.as_slice-words.result.now ≤ 8 = omega arith in
    IfOk-weaker c.each_address.result _ _ (λ o written. few_of_few c.args.text.now c.as_slice-words.result.now are (λ v. v.items) o few written) c.each_address.ensures.written

pub returns-clause-ports : goal.returns-clause-ports
returns-clause-ports c =
    let are : texts c.as_slice-words.result.now ≡ parts 44 c.args.text.now = ap texts c.as_slice-words.ensures.value
    ∙ c.in_ok-parts.ensures in
    IfOk-weaker c.each_address.result _ _ (λ o written. ports_written c.args.text.now c.as_slice-words.result.now are (λ v. v.items) o written) c.each_address.ensures.written
