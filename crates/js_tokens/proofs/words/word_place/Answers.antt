use Rattle.js_tokens.proofs.words.word_place.Goals as goal

pub returns : goal.returns
returns c = c.place_by_letter.ensures
