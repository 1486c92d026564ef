-- What the choice among a link's paths is (document 01, "Choice"), and what its functions answer.
pub mod Media
pub mod Rivals
pub mod Choice
pub mod Carried
pub mod Answers
pub mod Slim
