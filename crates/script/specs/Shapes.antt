-- What each command's words say, or why they say nothing: word 0 is the one that it opens with. Assumes nothing.
use Rattle.std.specs.Prelude.{ℕ, ◌+◌, List, Ok, Err, Result}
use Rattle.session.specs.declared.orders.FutureListing.{FutureListing}
use Rattle.session.specs.declared.orders.OptionListing.{OptionListing}
use Rattle.session.specs.declared.orders.Order.{Order}
use Rattle.session.specs.declared.orders.Order.TheVariants as order
use Rattle.script.specs.declared.command.BaseRule.{BaseRule}
use Rattle.script.specs.declared.command.BaseRule.TheVariants as base
use Rattle.script.specs.declared.command.RuleName.{RuleName}
use Rattle.script.specs.declared.command.RuleName.TheVariants as name
use Rattle.script.specs.declared.command.Question.{Question}
use Rattle.script.specs.declared.command.Question.TheVariants as ask
use Rattle.words.specs.declared.keyword.CallWord.{CallWord}
use Rattle.words.specs.declared.keyword.CallWord.TheVariants.{Deposit, Withdraw, Future, Option as option}
use Rattle.words.specs.declared.keyword.QuestionWord.{QuestionWord}
use Rattle.words.specs.declared.keyword.QuestionWord.TheVariants.{Cash, Margin, Frozen, Available, Holding, Contract, DrawLots, DrawCash, Day, Statement}
use Rattle.words.specs.declared.keyword.RuleWord.{RuleWord}
use Rattle.words.specs.declared.keyword.RuleWord.TheVariants.{Standard, Flat, AddOn}
use Rattle.words.specs.declared.unreadable.Unreadable.{Unreadable}
use Rattle.words.specs.declared.unreadable.Unreadable.TheVariants.{UnknownWord}
use Rattle.words.specs.Keywords.{right_of, style_of, rule_word_of}
use Rattle.words.specs.Words.{◌>>=◌, at, number_at, only}

-- one number and no more
abbrev pub one_number : List (List ℕ) → Result ℕ Unreadable
one_number w = do
  number ← number_at w 1
  end ← only w 2
  Ok number

-- two numbers and no more
abbrev pub two_numbers : List (List ℕ) → Result (ℕ × ℕ) Unreadable
two_numbers w = do
  first ← number_at w 1
  second ← number_at w 2
  end ← only w 3
  Ok (first, second)

-- future NUMBER SIZE TICK RATE PRICE
abbrev pub future_of : List (List ℕ) → Result FutureListing Unreadable
future_of w = do
  number ← number_at w 1
  size ← number_at w 2
  tick ← number_at w 3
  rate ← number_at w 4
  price ← number_at w 5
  end ← only w 6
  Ok (record { number = number; units = size; tick = tick; ratio = rate; price = price })

-- option NUMBER FUTURE call|put american|european STRIKE TICK LASTDAY PRICE
abbrev pub option_of : List (List ℕ) → Result OptionListing Unreadable
option_of w = do
  number ← number_at w 1
  future ← number_at w 2
  right ← right_of (at w 3)
  style ← style_of (at w 4)
  strike ← number_at w 5
  tick ← number_at w 6
  day ← number_at w 7
  price ← number_at w 8
  end ← only w 9
  Ok (record { number = number; future = future; right = right; style = style; strike = strike; tick = tick; last_day = day; price = price })

-- any call: deposit ACCOUNT AMOUNT, withdraw ACCOUNT AMOUNT, or a listing
abbrev pub order_of : CallWord → List (List ℕ) → Result Order Unreadable
order_of Deposit w = do
  two ← two_numbers w
  Ok (order.Deposit (record { account = two.0; amount = two.1 }))
order_of Withdraw w = do
  two ← two_numbers w
  Ok (order.Withdraw (record { account = two.0; amount = two.1 }))
order_of Future w = do
  listing ← future_of w
  Ok (order.ListFuture listing)
order_of option w = do
  listing ← option_of w
  Ok (order.ListOption listing)

-- what follows the word of a rule with no addition: nothing, or SUM
abbrev pub ruled : List (List ℕ) → ℕ → RuleWord → Result BaseRule Unreadable
ruled w place Standard = do
  end ← only w (place + 1)
  Ok base.Standard
ruled w place Flat = do
  sum ← number_at w (place + 1)
  end ← only w (place + 2)
  Ok (base.Flat sum)
ruled w place AddOn = Err UnknownWord

-- a rule with no addition from a place on: standard, or flat SUM
abbrev pub base_rule_of : List (List ℕ) → ℕ → Result BaseRule Unreadable
base_rule_of w place = do
  word ← rule_word_of (at w place)
  ruled w place word

-- the rule that a word of rules begins: standard, flat SUM, or addon A before one of these
abbrev pub named_rule : List (List ℕ) → RuleWord → Result RuleName Unreadable
named_rule w Standard = do
  rule ← base_rule_of w 2
  Ok (name.Base rule)
named_rule w Flat = do
  rule ← base_rule_of w 2
  Ok (name.Base rule)
named_rule w AddOn = do
  addition ← number_at w 3
  rule ← base_rule_of w 4
  Ok (name.AddOn addition rule)

-- what follows the book's number
abbrev pub rule_of : List (List ℕ) → Result RuleName Unreadable
rule_of w = do
  word ← rule_word_of (at w 2)
  named_rule w word

-- a question of one word
abbrev pub alone_of : Question → List (List ℕ) → Result Question Unreadable
alone_of question w = do
  end ← only w 1
  Ok question

-- a question about one account or contract
abbrev pub about_one : (ℕ → Question) → List (List ℕ) → Result Question Unreadable
about_one question w = do
  number ← one_number w
  Ok (question number)

-- any question: about an account, a contract, an account's holding in a contract, or none
abbrev pub question_of : QuestionWord → List (List ℕ) → Result Question Unreadable
question_of Cash w = about_one ask.Cash w
question_of Margin w = about_one ask.Margin w
question_of Frozen w = about_one ask.Frozen w
question_of Available w = about_one ask.Available w
question_of Holding w = do
  two ← two_numbers w
  Ok (ask.Holding two.0 two.1)
question_of Contract w = about_one ask.Contract w
question_of DrawLots w = about_one ask.DrawLots w
question_of DrawCash w = alone_of ask.DrawCash w
question_of Day w = alone_of ask.Day w
question_of Statement w = alone_of ask.Statement w
