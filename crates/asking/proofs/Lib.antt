pub mod Laws
mod LineLaws
mod QuestionLaws
