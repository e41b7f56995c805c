mod Seeking
mod Standing
mod Reaching
mod Leading
mod Headers
mod OneByOne
mod Fresh
